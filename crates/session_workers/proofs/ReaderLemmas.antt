-- Parcels that are added one by one, and what one dial or receive adds to what is told.
use Rattle.std.proofs.Common.{◌≡◌, ◌⊎◌, inl, inr, ℕ, Bool, true, false, Option, Some, None, Result, Ok, Err, List, [], ◌∷◌, ◌++◌, map, length, nat_lt, is_some, drop, take, refl, sym, ap, ◌∙◌, subst, append_assoc, arith}
use Rattle.std.specs.Prelude.{if◌then◌else◌}
use Rattle.std.proofs.lemmas.Bool.Decides.{nat_tests}
use Rattle.std.proofs.lemmas.List.{append-nil, length-append, map-append}
use Rattle.chan_io.specs.Dials.{Dials, dial_with}
use Rattle.chan_io.specs.Faults.{IfFailed, Rises, UnlessFailed}
use Rattle.chan_io.specs.LinksIn.{Arrivals, Receives}
use Rattle.chan_io.specs.declared.dial.Dial.{Dial}
use Rattle.chan_io.specs.declared.failed.IoFault.{IoFault}
use Rattle.chan_io.specs.declared.got.Got.{Got}
use Rattle.chan_values.specs.declared.item.Item.{Item}
use Rattle.chan_values.specs.declared.side.Side.{Side}
use Rattle.channel_core.specs.Arrival.{Answer, Arrives}
use Rattle.channel_core.specs.declared.message.Incoming.{Incoming}
use Rattle.channel_core.specs.declared.wire.InRefusal.{InRefusal}
use Rattle.turn_lock.specs.declared.seat.Seat.{Seat}
use Rattle.turn_lock.specs.declared.value.Turn.{Ghosts}
use Rattle.session_run.specs.Adds.{AddsCalls}
use Rattle.session_run.specs.Shelf.{added_or_not}
use Rattle.session_run.specs.declared.parcel.Parcel.{Parcel}
use Rattle.session_run.specs.declared.shelf_call.ShelfAnswer.{ShelfAnswer}
use Rattle.session_run.specs.declared.shelf_call.ShelfCall.{ShelfCall}
use Rattle.session_workers.specs.declared.read_state.ReadEnd.{ReadEnd}
use Rattle.session_workers.specs.declared.reply.Reply.{Reply}
use Rattle.session_workers.specs.Openings.{Replies}
use Rattle.session_workers.specs.ReaderSteps.{added_end}
use Rattle.session_workers.specs.Readers.{DialsAll, ReceivesAll, Says, wants_memory}
use Rattle.session_workers.specs.Reading.{added_call, adding, arrived, wanting_call}
use Rattle.session_workers.specs.Writing.{CountsFailures}

-- ---- parcels

take_all : {X : Type 0} (done rest : List X) → take (length done) (done ++ rest) ≡ done
take_all [] rest = refl
take_all (x ∷ done) rest = ap (λ l. x ∷ l) (take_all done rest)

drop_all : {X : Type 0} (done rest : List X) → drop (length done) (done ++ rest) ≡ rest
drop_all [] rest = refl
drop_all (x ∷ done) rest = drop_all done rest

not_less : (n : ℕ) → nat_lt n n ≡ false
not_less n = grind (arith, nat_tests)

less : (done rest : List Parcel) (parcel : Parcel)
    → nat_lt (length done) (length (done ++ parcel ∷ rest)) ≡ true
less done rest parcel =
    let is = length-append done (parcel ∷ rest) in grind (arith, nat_tests, is)

-- a list of parcels, of which so many were added with these calls, and how the reader ends then
pub record Added (parcels : List Parcel) (calls : List (ShelfCall × ShelfAnswer))
    (over : Option ReadEnd) : Type 0 where
  pub added : ℕ
  pub are : calls ≡ adding parcels added
  pub end : over ≡ added_end parcels added

-- all of the parcels were added
pub all_added : (parcels : List Parcel) → Added parcels (map added_call parcels) None
all_added parcels =
    let all : parcels ++ [] ≡ parcels = append-nil parcels in
    let first : take (length parcels) parcels ≡ parcels =
    ap (λ (l : List Parcel). take (length parcels) l) (sym all) ∙ take_all parcels [] in
    let none : drop (length parcels) parcels ≡ [] =
    ap (λ (l : List Parcel). drop (length parcels) l) (sym all) ∙ drop_all parcels [] in
    record {
      added = length parcels;
      are =
          sym (ap (λ (l : List Parcel). map added_call l
          ++ map wanting_call (take 1 (drop (length parcels) parcels))) first
          ∙ ap (λ (l : List Parcel). map added_call parcels ++ map wanting_call (take 1 l)) none
          ∙ append-nil (map added_call parcels));
      end =
          sym (ap (λ (b : Bool). if b then Some ReadEnd.NoMemory else None)
          (not_less (length parcels)));
    }

-- memory was wanted at this parcel
pub some_added : (parcels done : List Parcel) (parcel : Parcel) (rest : List Parcel)
    → parcels ≡ done ++ parcel ∷ rest
    → Added parcels (map added_call done ++ wanting_call parcel ∷ []) (Some ReadEnd.NoMemory)
some_added parcels done parcel rest is =
    let n = length done in
    let first : take n parcels ≡ done =
    ap (λ (l : List Parcel). take n l) is ∙ take_all done (parcel ∷ rest) in
    let second : drop n parcels ≡ parcel ∷ rest =
    ap (λ (l : List Parcel). drop n l) is ∙ drop_all done (parcel ∷ rest) in
    record {
      added = n;
      are =
          sym (ap (λ (l : List Parcel). map added_call l
          ++ map wanting_call (take 1 (drop n parcels))) first
          ∙ ap (λ (l : List Parcel). map added_call done ++ map wanting_call (take 1 l)) second);
      end =
          sym (ap (λ (b : Bool). if b then Some ReadEnd.NoMemory else None)
          (ap (λ (l : List Parcel). nat_lt n (length l)) is ∙ less done rest parcel));
    }

-- what stands behind the parcels of the items
abbrev behind : Bool → List Parcel
behind true = Parcel.Finished ∷ []
behind false = []

-- the parcel of an item
abbrev pub parcel_of : Item → Parcel
parcel_of item = Parcel.Arrived item

arrived-is : (items : List Item) (last : Bool)
    → arrived items last ≡ map parcel_of items ++ behind last
arrived-is items true = refl
arrived-is items false = sym (append-nil (map parcel_of items))

-- memory was wanted at this item
pub item_lacks : (items done rest : List Item) (item : Item) (last : Bool)
    → items ≡ done ++ item ∷ rest
    → Added (arrived items last)
    (map added_call (map parcel_of done) ++ wanting_call (Parcel.Arrived item) ∷ [])
    (Some ReadEnd.NoMemory)
item_lacks items done rest item last is =
    some_added (arrived items last) (map parcel_of done) (Parcel.Arrived item)
    (map parcel_of rest ++ behind last)
    (arrived-is items last
    ∙ ap (λ (l : List Item). map parcel_of l ++ behind last) is
    ∙ ap (λ l. l ++ behind last) (map-append parcel_of done (item ∷ rest))
    ∙ append_assoc (map parcel_of done) (map parcel_of (item ∷ rest)) (behind last))

-- memory was wanted behind the last item
pub finish_lacks : (items : List Item) (last : Bool)
    → last ≡ true
    → Added (arrived items last)
    (map added_call (map parcel_of items) ++ wanting_call Parcel.Finished ∷ [])
    (Some ReadEnd.NoMemory)
finish_lacks items true is =
    some_added (arrived items true) (map parcel_of items) Parcel.Finished [] refl
finish_lacks items false is = absurd (cc)

-- all items were added, and that they all arrived
pub finish_added : (items : List Item) (last : Bool)
    → last ≡ true
    → Added (arrived items last)
    (map added_call (map parcel_of items) ++ added_call Parcel.Finished ∷ []) None
finish_added items true is =
    subst (λ l. Added (arrived items true) l None)
    (map-append added_call (map parcel_of items) (Parcel.Finished ∷ []))
    (all_added (arrived items true))
finish_added items false is = absurd (cc)

-- all items were added, and none of them is the last
pub items_added : (items : List Item) (last : Bool)
    → last ≡ false
    → Added (arrived items last) (map added_call (map parcel_of items)) None
items_added items false is = all_added (arrived items false)
items_added items true is = absurd (cc)

-- one item more was added
pub added-push : (done : List Item) (item : Item)
    → map added_call (map parcel_of done) ++ added_call (Parcel.Arrived item) ∷ []
    ≡ map added_call (map parcel_of (done ++ item ∷ []))
added-push done item =
    sym (ap (λ (l : List Parcel). map added_call l) (map-append parcel_of done (item ∷ []))
    ∙ map-append added_call (map parcel_of done) (Parcel.Arrived item ∷ []))

-- what a call that adds a parcel was, by what it answered
pub added-of : {V T : Type 0} {g : Ghosts V ShelfCall ShelfAnswer T}
    (a b : Seat V ShelfCall ShelfAnswer T g) (parcel : Parcel) (r s : Bool)
    → r ≡ s
    → AddsCalls a ((ShelfCall.Add parcel, added_or_not r) ∷ []) b
    → AddsCalls a ((ShelfCall.Add parcel, added_or_not s) ∷ []) b
added-of a b parcel r s is adds =
    subst (λ t. AddsCalls a ((ShelfCall.Add parcel, added_or_not t) ∷ []) b) is adds

pub none_left : {X : Type 0} (rest : List X) → length rest ≡ 0 → rest ≡ []
none_left [] is = refl
none_left (x ∷ rest) is = absurd (omega (arith, is))

-- nothing is there
pub None-from_is_some : {X : Type 0} (o : Option X) → false ≡ is_some o → o ≡ None
None-from_is_some None is = refl
None-from_is_some (Some x) is = absurd (cc)

-- ---- replies and messages

pub Replies-of : (a b : List ℕ) (r s : Reply) → a ≡ b → r ≡ s → Replies a r → Replies b s
Replies-of a b r s bytes reply is =
    subst (λ t. Replies b t) reply (subst (λ c. Replies c r) bytes is)

pub Says-of : (side : Side) (a b : List ℕ) (r s : Option Incoming)
    → a ≡ b
    → r ≡ s
    → Says side a r
    → Says side b s
Says-of side a b r s bytes said is =
    subst (λ t. Says side b t) said (subst (λ c. Says side c r) bytes is)

-- a message that was refused, and not for want of memory
pub refused : (side : Side) (bytes : List ℕ) (refusal : InRefusal)
    → Arrives side bytes (Err refusal) ⊎ (Path Answer (Err refusal) (Err InRefusal.NoMemory))
    → wants_memory refusal ≡ false
    → (refusal : InRefusal) × Arrives side bytes (Err refusal)
refused side bytes refusal (inl arrives) other = (refusal, arrives)
refused side bytes refusal (inr is) other = absurd (cc)

-- ---- counts

pub Steady-ok : {X : Type 0} (a : Result X IoFault) (value : X) (x y : ℕ)
    → a ≡ Ok value
    → UnlessFailed a (y ≡ x)
    → CountsFailures 0 x y
Steady-ok a value x y is steady =
    let same : y ≡ x = subst (λ r. UnlessFailed r (y ≡ x)) is steady in
    record { rises = omega (arith, same); stays = λ _. same }

pub Steady-wanted : {X : Type 0} (a : Result X IoFault) (x y : ℕ)
    → a ≡ Err IoFault.NoMemory
    → UnlessFailed a (y ≡ x)
    → CountsFailures 0 x y
Steady-wanted a x y is steady =
    let same : y ≡ x = subst (λ r. UnlessFailed r (y ≡ x)) is steady in
    record { rises = omega (arith, same); stays = λ _. same }

pub Failed-once : {X : Type 0} (a : Result X IoFault) (x y : ℕ)
    → a ≡ Err IoFault.Failed
    → IfFailed a (Rises x y)
    → CountsFailures 1 x y
Failed-once a x y is rose = record {
  rises = subst (λ r. IfFailed r (Rises x y)) is rose;
  stays = λ (none : 1 ≡ 0). absurd (omega (arith, none));
}

-- ---- dials

pub DialsAll-none : (o : Option (List Dial)) → DialsAll [] o o
DialsAll-none None = refl
DialsAll-none (Some before) = ap Some (sym (append-nil before))

pub DialsAll-replied : (opening reply : List ℕ) (o n : Option (List Dial))
    → Dials opening (Ok reply) o n
    → DialsAll (dial_with opening (Some reply) ∷ []) o n
DialsAll-replied opening reply None n is = is
DialsAll-replied opening reply (Some before) n is = is

pub DialsAll-failed : (opening : List ℕ) (o n : Option (List Dial))
    → Dials opening (Err IoFault.Failed) o n
    → DialsAll (dial_with opening None ∷ []) o n
DialsAll-failed opening None n is = is
DialsAll-failed opening (Some before) n is = is

pub DialsAll-wanted : (opening : List ℕ) (o n : Option (List Dial))
    → Dials opening (Err IoFault.NoMemory) o n
    → DialsAll [] o n
DialsAll-wanted opening None n is = is
DialsAll-wanted opening (Some before) n is = is ∙ DialsAll-none (Some before)

pub Dials-of : (opening text : List ℕ) (a b : Result (List ℕ) IoFault)
    (o n : Option (List Dial))
    → opening ≡ text
    → a ≡ b
    → Dials opening a o n
    → Dials text b o n
Dials-of opening text a b o n same is dials =
    subst (λ r. Dials text r o n) is (subst (λ t. Dials t a o n) same dials)

-- ---- receives

pub ReceivesAll-none : (o : Option Arrivals) → ReceivesAll [] o o
ReceivesAll-none None = refl
ReceivesAll-none (Some before) = (
  before.coming,
  ap (λ l. Some (record { answered = l; coming = before.coming }))
      (sym (append-nil before.answered)),
)

pub ReceivesAll-got : (got : Got) (o n : Option Arrivals)
    → Receives (Ok got) o n
    → ReceivesAll (Some got ∷ []) o n
ReceivesAll-got got None n is = is
ReceivesAll-got got (Some before) n is = (drop 1 before.coming, is.1)

pub ReceivesAll-failed : (o n : Option Arrivals)
    → Receives (Err IoFault.Failed) o n
    → ReceivesAll (None ∷ []) o n
ReceivesAll-failed None n is = is
ReceivesAll-failed (Some before) n is = (drop is.0 before.coming, is.1)

pub ReceivesAll-wanted : (o n : Option Arrivals)
    → Receives (Err IoFault.NoMemory) o n
    → ReceivesAll [] o n
ReceivesAll-wanted None n is = is
ReceivesAll-wanted (Some before) n is =
    subst (ReceivesAll [] (Some before)) (sym is) (ReceivesAll-none (Some before))

-- what a receive did, by what it answered
pub Receives-of : (a b : Result Got IoFault) (o n : Option Arrivals)
    → a ≡ b
    → Receives a o n
    → Receives b o n
Receives-of a b o n is receives = subst (λ r. Receives r o n) is receives
