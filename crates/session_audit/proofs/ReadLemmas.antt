-- The records of a journal, cut off its front one by one.
use Rattle.std.proofs.Common.{◌≡◌, ℕ, ◌+◌, ◌-◌, ◌≤◌, suc, zero, Option, Some, None, List, [], ◌∷◌, ◌++◌, refl, sym, ap, ◌∙◌, append_assoc, arith, drop, length, length-append, length-drop, length-take, take}
use Rattle.std.proofs.lemmas.Grind.{flat_map-append}
use Rattle.std.proofs.lemmas.List.{append-nil, drop-drop}
use Rattle.std.proofs.lemmas.List.Elements.{All-cons, All-nil, All-push}
use Rattle.std.specs.Int.{w32, to_be_bytes}
use Rattle.std.specs.Option.{IfSome}
use Rattle.agent_message.proofs.PieceLemmas.{split_piece}
use Rattle.agent_message.proofs.Spelling.{IsBytes}
use Rattle.session_audit.specs.declared.act.Act.{Act}
use Rattle.session_audit.specs.Ends.{IsActable}
use Rattle.session_audit.specs.Playing.{AreActable}
use Rattle.session_audit.specs.declared.reading.Saying.{Saying}
use Rattle.session_audit.specs.declared.reading.Unread.{Unread}
use Rattle.session_audit.specs.declared.verdict.Why.{Why}
use Rattle.session_audit.specs.Journal.{BeginsWithFault, HasFault, IsFormed, IsSize, framed, journal, size_in}
use Rattle.session_audit.specs.Readings.{AreSaid, IsFaultless, IsFaultAt, IsFront, IsRead, IsReadTo, IsSaid, IsUnread}

-- one record more
pub journal-push : (records : List (List ℕ)) (r : List ℕ)
    → journal (records ++ r ∷ []) ≡ journal records ++ framed r
journal-push records r =
    flat_map-append framed records (r ∷ [])
    ∙ ap (λ (l : List ℕ). journal records ++ l) (append-nil (framed r))

-- and one saying more
AreSaid-push : (at : ℕ) (sayings : List Saying) (records : List (List ℕ)) (s : Saying) (r : List ℕ)
    → AreSaid at sayings records
    → s.at ≡ at + length (journal records)
    → IsSaid r s.side s.act
    → AreSaid at (sayings ++ s ∷ []) (records ++ r ∷ [])
AreSaid-push at [] [] s r are place said = (omega (arith, place), said, tt)
AreSaid-push at [] (q ∷ records) s r are place said = absurd are
AreSaid-push at (x ∷ sayings) [] s r are place said = absurd are
AreSaid-push at (x ∷ sayings) (q ∷ records) s r are place said =
    let long = length-append (framed q) (journal records) in
    let next : s.at ≡ at + length (framed q) + length (journal records) = omega (arith, place, long) in
    (are.0, are.1, AreSaid-push (at + length (framed q)) sayings records s r are.2 next said)

-- before the first record
pub read_nothing : (bytes : List ℕ) → IsReadTo bytes 0 []
read_nothing bytes =
    record {
      records = [];
      split = refl;
      place = refl;
      formed = All-nil IsFormed;
      said = tt;
    }

-- the record at the front of the rest is the next
pub read_more : (bytes : List ℕ) (at long : ℕ) (sayings : List Saying) (s : Saying)
    → IsReadTo bytes at sayings
    → s.at ≡ at
    → IsFront (drop at bytes) long s
    → IsReadTo bytes (at + long) (sayings ++ s ∷ [])
read_more bytes at long sayings s x place front =
    let rest : drop long (drop at bytes) ≡ drop (at + long) bytes = drop-drop long at bytes in
    let sum = length-append (journal x.records) (framed front.it) in
    let here = x.place in
    let size = front.long_is in
    record {
      records = x.records ++ front.it ∷ [];
      split = x.split
          ∙ ap (λ (l : List ℕ). journal x.records ++ l) front.split
          ∙ sym (append_assoc (journal x.records) (framed front.it) (drop long (drop at bytes)))
          ∙ ap (λ (l : List ℕ). l ++ drop long (drop at bytes))
          (sym (journal-push x.records front.it))
          ∙ ap (λ (l : List ℕ). journal (x.records ++ front.it ∷ []) ++ l) rest;
      place = rw (journal-push x.records front.it) (omega (arith, sum, here, size));
      formed = All-push IsFormed x.records front.it x.formed front.formed;
      said = AreSaid-push 0 sayings x.records s front.it x.said
          (omega (arith, place, here)) front.said;
    }

-- nothing is behind the end
drop_all : (bytes : List ℕ) (at : ℕ) → length bytes ≤ at → drop at bytes ≡ []
drop_all [] zero past = refl
drop_all [] (suc at) past = refl
drop_all (b ∷ bytes) zero past = absurd (omega (arith, past))
drop_all (b ∷ bytes) (suc at) past = drop_all bytes at (omega (arith, past))

-- all is read
pub read_all : (bytes : List ℕ) (at : ℕ) (sayings : List Saying)
    → IsReadTo bytes at sayings
    → length bytes ≤ at
    → IsRead bytes sayings
read_all bytes at sayings x past =
    record {
      records = x.records;
      split = x.split
          ∙ ap (λ (l : List ℕ). journal x.records ++ l) (drop_all bytes at past)
          ∙ append-nil (journal x.records);
      formed = x.formed;
      said = x.said;
    }

-- a fault of the rest is the first fault
pub unread_at : (bytes : List ℕ) (at : ℕ) (sayings : List Saying) (e : Unread)
    → IsReadTo bytes at sayings
    → IsFaultAt at (drop at bytes) e
    → IsUnread bytes e
unread_at bytes at sayings (Unread.Fault place why) x fault =
    record {
      records = x.records;
      rest = drop at bytes;
      split = x.split;
      formed = x.formed;
      place_is = fault.0 ∙ x.place;
      fault = fault.1;
    }
unread_at bytes at sayings Unread.NoMemory x fault = tt

-- the fault of a whole record is that of the bytes which begin with it
pub record_fault : (bytes r rest : List ℕ) (why : Why)
    → bytes ≡ framed r ++ rest
    → IsSize (length r)
    → HasFault r why
    → BeginsWithFault bytes why
record_fault bytes r rest (Why.WrongEnd byte) split size fault = (r, rest, split, size, fault)
record_fault bytes r rest (Why.Kind kind) split size fault = (r, rest, split, size, fault)
record_fault bytes r rest (Why.Extra n) split size fault = (r, rest, split, size, fault)
record_fault bytes r rest (Why.Message e) split size fault = (r, rest, split, size, fault)
record_fault bytes r rest (Why.Size n) split size fault = absurd fault
record_fault bytes r rest (Why.Cut n) split size fault = absurd fault
record_fault bytes r rest Why.NotEmitted split size fault = absurd fault
record_fault bytes r rest Why.Unheard split size fault = absurd fault

-- ---- the front

-- the record of this size at the front
abbrev it_of : List ℕ → ℕ → List ℕ
it_of bytes size = take (4 + size - 4) (drop 4 bytes)

-- it is so long
length-it : (bytes : List ℕ) (size : ℕ) → 4 + size ≤ length bytes → length (it_of bytes size) ≡ size
length-it bytes size whole =
    omega (arith, whole, length-take (4 + size - 4) (drop 4 bytes), length-drop 4 bytes)

pub front_is : (bytes : List ℕ) (size : ℕ) (s : Saying)
    → IsBytes bytes
    → size ≡ size_in bytes
    → 4 + size ≤ length bytes
    → 2 ≤ size
    → size ≤ 65658
    → IsFaultless (it_of bytes size)
    → IsSaid (it_of bytes size) s.side s.act
    → IsFront bytes (4 + size) s
front_is bytes size s fits size_is whole some few faultless said =
    let it = it_of bytes size in
    let long = length-it bytes size whole in
    let sum = length-append (to_be_bytes w32 (length it)) it in
    record {
      it = it;
      split = split_piece bytes size fits size_is whole;
      long_is = omega (arith, long, sum);
      within = whole;
      formed = record { size = (omega (arith, long, some), omega (arith, long, few)); faultless = faultless };
      said = said;
    }

pub front_fault : (bytes : List ℕ) (size : ℕ) (why : Why)
    → IsBytes bytes
    → size ≡ size_in bytes
    → 4 + size ≤ length bytes
    → 2 ≤ size
    → size ≤ 65658
    → HasFault (it_of bytes size) why
    → BeginsWithFault bytes why
front_fault bytes size why fits size_is whole some few fault =
    let long = length-it bytes size whole in
    record_fault bytes (it_of bytes size) (drop (4 + size) bytes) why
    (split_piece bytes size fits size_is whole)
    (omega (arith, long, some), omega (arith, long, few))
    fault

-- ---- what is said can be replayed

pub said_actable : (at : ℕ) (sayings : List Saying) (records : List (List ℕ))
    → AreSaid at sayings records
    → AreActable sayings
said_actable at [] records are = All-nil (λ (s : Saying). IfSome s.act IsActable)
said_actable at (s ∷ sayings) [] are = absurd are
said_actable at (s ∷ sayings) (r ∷ records) are =
    All-cons (λ (s : Saying). IfSome s.act IsActable) s sayings
    (one s.act are.1)
    (said_actable (at + length (framed r)) sayings records are.2)
  where
    one : (o : Option Act) → IsSaid r s.side o → IfSome o IsActable
    one None said = tt
    one (Some act) said = said.2
