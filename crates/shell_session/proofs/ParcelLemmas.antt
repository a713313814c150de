-- Lists of parcels and items with more behind them.
use Rattle.std.proofs.Common.{◌≡◌, ◌≢◌, ℕ, ◌+◌, Bool, true, false, cond, ◌||◌, ◌==◌, List, [], ◌∷◌, ◌++◌, filter, length, refl, ap, ◌∙◌, arith, append-nil, length-append, true≢false}
use Rattle.std.specs.List.{AllByRecursion}
use Rattle.std.proofs.lemmas.Bool.{false≢true}
use Rattle.std.proofs.lemmas.Bool.Decides.{nat_tests}
use Rattle.std.proofs.lemmas.List.Concat.{flat_map-append}
use Rattle.std.proofs.lemmas.List.Elements.{filter-append, filter_map-append}
use Rattle.chan_values.specs.declared.item.Item.{Item}
use Rattle.session_run.specs.declared.parcel.Parcel.{Parcel}
use Rattle.handshake.specs.Agent.{AgentAgrees}
use Rattle.shell_session.specs.Children.{has_end, input_bytes}
use Rattle.shell_session.specs.Items.{joined, of_type}
use Rattle.shell_session.specs.Parcels.{arrival, arrived, before_end, behind_first, is_end, is_over, overs}
use Rattle.shell_session.specs.Readings.{payloads}

-- ---- items of a type

pub of_type-append : (t : ℕ) (xs ys : List Item)
    → of_type t (xs ++ ys) ≡ of_type t xs ++ of_type t ys
of_type-append t xs ys = filter-append (λ (item : Item). item.ptype == t) xs ys

pub joined-append : (t : ℕ) (xs ys : List Item) → joined t (xs ++ ys) ≡ joined t xs ++ joined t ys
joined-append t xs ys =
    ap (λ l. payloads l) (of_type-append t xs ys)
    ∙ flat_map-append (λ (item : Item). item.payload) (of_type t xs) (of_type t ys)

-- items that are none of a type add nothing
pub of_type-none : (t : ℕ) (xs ys : List Item)
    → of_type t ys ≡ []
    → of_type t (xs ++ ys) ≡ of_type t xs
of_type-none t xs ys none =
    of_type-append t xs ys ∙ ap (λ l. of_type t xs ++ l) none ∙ append-nil (of_type t xs)

joined_of : (t : ℕ) (xs ys : List Item) → of_type t xs ≡ of_type t ys → joined t xs ≡ joined t ys
joined_of t xs ys e = ap (λ l. payloads l) e

pub joined-none : (t : ℕ) (xs ys : List Item)
    → of_type t ys ≡ []
    → joined t (xs ++ ys) ≡ joined t xs
joined-none t xs ys none = joined_of t (xs ++ ys) xs (of_type-none t xs ys none)

same_number : (n : ℕ) → (n == n) ≡ true
same_number n = grind (arith, nat_tests)

other_number : (m n : ℕ) → m ≢ n → (m == n) ≡ false
other_number m n ne = grind (arith, nat_tests)

-- the bytes of one item, by its type
pub bytes_of_item : (t : ℕ) (item : Item) → item.ptype ≡ t → joined t (item ∷ []) ≡ item.payload
bytes_of_item t item is =
    ap (λ b. payloads (cond b (item ∷ []) [])) (ap (λ n. n == t) is ∙ same_number t)
    ∙ append-nil item.payload

pub bytes_of_other : (t : ℕ) (item : Item) → item.ptype ≢ t → joined t (item ∷ []) ≡ []
bytes_of_other t item ne = ap (λ b. payloads (cond b (item ∷ []) [])) (other_number item.ptype t ne)

-- all items of a type are kept
pub of_type-all : (t : ℕ) (xs : List Item)
    → AllByRecursion (λ (item : Item). item.ptype ≡ t) xs
    → of_type t xs ≡ xs
of_type-all t [] all = refl
of_type-all t (x ∷ xs) all =
    ap (λ b. cond b (x ∷ of_type t xs) (of_type t xs)) (ap (λ n. n == t) all.0 ∙ same_number t)
    ∙ ap (λ l. x ∷ l) (of_type-all t xs all.1)

-- and none of another type
pub of_type-other : (t u : ℕ) (xs : List Item)
    → u ≢ t
    → AllByRecursion (λ (item : Item). item.ptype ≡ u) xs
    → of_type t xs ≡ []
of_type-other t u [] ne all = refl
of_type-other t u (x ∷ xs) ne all =
    ap (λ b. cond b (x ∷ of_type t xs) (of_type t xs))
    (ap (λ n. n == t) all.0 ∙ other_number u t ne)
    ∙ of_type-other t u xs ne all.1

-- ---- parcels

pub arrived-append : (ps qs : List Parcel) → arrived (ps ++ qs) ≡ arrived ps ++ arrived qs
arrived-append ps qs = filter_map-append arrival ps qs

pub overs-more : (ps qs : List Parcel) → overs (ps ++ qs) ≡ overs ps + overs qs
overs-more ps qs =
    ap (λ (l : List Parcel). length l) (filter-append is_over ps qs)
    ∙ length-append (filter is_over ps) (filter is_over qs)

or_true : (b : Bool) → (b || true) ≡ true
or_true true = refl
or_true false = refl

pub has_end-end : (p : Parcel) (ps : List Parcel) → is_end p ≡ true → has_end (ps ++ p ∷ []) ≡ true
has_end-end p [] e = ap (λ b. b || false) e
has_end-end p (q ∷ ps) e = ap (λ b. is_end q || b) (has_end-end p ps e) ∙ or_true (is_end q)

pub has_end-same : (p : Parcel) (ps : List Parcel)
    → is_end p ≡ false
    → has_end (ps ++ p ∷ []) ≡ has_end ps
has_end-same p [] e = ap (λ b. b || false) e
has_end-same p (q ∷ ps) e = ap (λ b. is_end q || b) (has_end-same p ps e)

before_end-end : (p : Parcel) (ps : List Parcel)
    → is_end p ≡ true
    → before_end (ps ++ p ∷ []) ≡ before_end ps
before_end-end p [] e = ap (λ b. cond b [] (p ∷ [])) e
before_end-end p (q ∷ ps) e = ap (λ l. cond (is_end q) [] (q ∷ l)) (before_end-end p ps e)

after_at : (b : Bool) (q p : Parcel) (ps : List Parcel)
    → (has_end ps ≡ true → before_end (ps ++ p ∷ []) ≡ before_end ps)
    → (b || has_end ps) ≡ true
    → cond b [] (q ∷ before_end (ps ++ p ∷ [])) ≡ cond b [] (q ∷ before_end ps)
after_at true q p ps rest h = refl
after_at false q p ps rest h = ap (λ l. q ∷ l) (rest h)

before_end-after : (p : Parcel) (ps : List Parcel)
    → has_end ps ≡ true
    → before_end (ps ++ p ∷ []) ≡ before_end ps
before_end-after p [] e = absurd (false≢true e)
before_end-after p (q ∷ ps) e = after_at (is_end q) q p ps (before_end-after p ps) e

more_at : (b : Bool) (q p : Parcel) (ps : List Parcel)
    → (has_end ps ≡ false → before_end (ps ++ p ∷ []) ≡ before_end ps ++ p ∷ [])
    → (b || has_end ps) ≡ false
    → cond b [] (q ∷ before_end (ps ++ p ∷ [])) ≡ cond b [] (q ∷ before_end ps) ++ p ∷ []
more_at true q p ps rest h = absurd (true≢false h)
more_at false q p ps rest h = ap (λ l. q ∷ l) (rest h)

before_end-more : (p : Parcel) (ps : List Parcel)
    → is_end p ≡ false
    → has_end ps ≡ false
    → before_end (ps ++ p ∷ []) ≡ before_end ps ++ p ∷ []
before_end-more p [] goes e = ap (λ b. cond b [] (p ∷ [])) goes
before_end-more p (q ∷ ps) goes e = more_at (is_end q) q p ps (before_end-more p ps goes) e

-- the bytes for a child's input stay at an end, and behind one
pub input_bytes-end : (p : Parcel) (ps : List Parcel)
    → is_end p ≡ true
    → input_bytes (ps ++ p ∷ []) ≡ input_bytes ps
input_bytes-end p ps e = ap (λ l. joined 1 (arrived l)) (before_end-end p ps e)

pub input_bytes-after : (p : Parcel) (ps : List Parcel)
    → has_end ps ≡ true
    → input_bytes (ps ++ p ∷ []) ≡ input_bytes ps
input_bytes-after p ps e = ap (λ l. joined 1 (arrived l)) (before_end-after p ps e)

-- before one they grow by those of the parcel
pub input_bytes-more : (p : Parcel) (ps : List Parcel)
    → has_end ps ≡ false
    → is_end p ≡ false
    → input_bytes (ps ++ p ∷ []) ≡ input_bytes ps ++ joined 1 (arrived (p ∷ []))
input_bytes-more p ps e goes =
    ap (λ l. joined 1 (arrived l)) (before_end-more p ps goes e)
    ∙ ap (λ l. joined 1 l) (arrived-append (before_end ps) (p ∷ []))
    ∙ joined-append 1 (arrived (before_end ps)) (arrived (p ∷ []))

-- ---- behind the first item

pub agrees-more : (xs ys : List Item) → AgentAgrees xs → AgentAgrees (xs ++ ys)
agrees-more [] ys agrees = absurd agrees
agrees-more (x ∷ xs) ys agrees = agrees

pub behind-none : (ps : List Parcel) → arrived ps ≡ [] → behind_first ps ≡ []
behind-none [] none = refl
behind-none (Parcel.Arrived item ∷ ps) none =
    absurd (let e = ap (λ (l : List Item). length l) none in omega arith)
behind-none (Parcel.Finished ∷ ps) none = behind-none ps none
behind-none (Parcel.Over ∷ ps) none = behind-none ps none

pub behind-first : (ps : List Parcel) (item : Item)
    → arrived ps ≡ []
    → behind_first (ps ++ Parcel.Arrived item ∷ []) ≡ []
behind-first [] item none = refl
behind-first (Parcel.Arrived other ∷ ps) item none =
    absurd (let e = ap (λ (l : List Item). length l) none in omega arith)
behind-first (Parcel.Finished ∷ ps) item none = behind-first ps item none
behind-first (Parcel.Over ∷ ps) item none = behind-first ps item none

pub behind-more : (ps qs : List Parcel)
    → AgentAgrees (arrived ps)
    → behind_first (ps ++ qs) ≡ behind_first ps ++ qs
behind-more [] qs agrees = absurd agrees
behind-more (Parcel.Arrived item ∷ ps) qs agrees = refl
behind-more (Parcel.Finished ∷ ps) qs agrees = behind-more ps qs agrees
behind-more (Parcel.Over ∷ ps) qs agrees = behind-more ps qs agrees
