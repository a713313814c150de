-- The sayings of a journal and its records.
use Rattle.std.proofs.Common.{◌≡◌, ◌≢◌, ℕ, ◌+◌, zero, suc, true, false, Option, Some, None, List, [], ◌∷◌, ◌++◌, ⊎_elim, refl, sym, ap, subst, ◌∙◌, arith, drop, length, length-append, slice_get, take}
use Rattle.std.specs.List.{All, AllZip, cons_option}
use Rattle.std.proofs.lemmas.Bool.{eq-eqb}
use Rattle.std.proofs.lemmas.List.{append_cancel_left, take-append-drop}
use Rattle.std.proofs.lemmas.List.Elements.{All-cons, All-head, All-nil, All-tail}
use Rattle.std.proofs.lemmas.Option.{none-some, same_Some}
use Rattle.chan_values.specs.declared.side.Side.{Side}
use Rattle.chan_values.specs.Sides.{other}
use Rattle.channel_core.proofs.WorldLemmas.{cases_side}
use Rattle.session_audit.specs.declared.act.Act.{Act}
use Rattle.session_audit.specs.declared.reading.Saying.{Saying}
use Rattle.session_audit.specs.Journal.{IsRecordOf, framed, is_of, journal, letter, records_at}
use Rattle.session_audit.specs.Playing.{SaysAct, act_said, acts_before, acts_said}
use Rattle.session_audit.specs.Verdict.{SaysOne}
use Rattle.session_audit.specs.Readings.{AreSaid, IsSaid}
use Rattle.session_audit.proofs.LeftLemmas.{letter-apart}
use Rattle.session_audit.proofs.SaidLemmas.{act_said-other, act_said-same}

-- ---- the letter of a record

-- a record begins with the letter of the end of which it says something
begins : (r : List ℕ) (side : Side) (o : Option Act)
    → IsSaid r side o
    → (rest : List ℕ) × (r ≡ letter side ∷ rest)
begins r side (Some (Act.Emits out)) said = (_, said.0.1)
begins r side (Some (Act.Hears incoming)) said = (_, said.0.1)
begins r side (Some Act.Opens) said = (_, said.0)
begins r side (Some Act.Loses) said = (_, said.0)
begins r side (Some Act.Closes) said = (_, said.0)
begins r side None said = (_, said.kind.1)

pub is_here : (r : List ℕ) (side : Side) (o : Option Act) → IsSaid r side o → is_of (letter side) r ≡ true
is_here r side o said =
    let b = begins r side o said in
    ap (is_of (letter side)) b.1 ∙ eq-eqb (letter side) (letter side) refl

is_there : (r : List ℕ) (side : Side) (o : Option Act)
    → IsSaid r (other side) o
    → is_of (letter side) r ≡ false
is_there r side o said =
    let b = begins r (other side) o said in
    ap (is_of (letter side)) b.1 ∙ letter-apart side

-- ---- one saying

-- a saying stands at the place of its record
pub record IsSaidAt
    (at : ℕ) (records : List (List ℕ)) (n : ℕ) (s : Saying) : Type 0 where
  pub it : List ℕ
  pub after : List (List ℕ)
  pub split : records ≡ take n records ++ it ∷ after
  pub place : s.at ≡ at + length (journal (take n records))
  pub said : IsSaid it s.side s.act

pub said_at : (at : ℕ) (sayings : List Saying) (records : List (List ℕ)) (n : ℕ) (s : Saying)
    → AreSaid at sayings records
    → slice_get sayings n ≡ Some s
    → IsSaidAt at records n s
said_at at [] records n s are is = absurd (none-some s is)
said_at at (x ∷ sayings) [] n s are is = absurd are
said_at at (x ∷ sayings) (q ∷ records) zero s are is =
    let same : x ≡ s = same_Some x s is in
    let place = are.0 in
    record {
      it = q;
      after = records;
      split = refl;
      place = ap (λ (y : Saying). y.at) (sym same) ∙ omega (arith, place);
      said = subst (λ (y : Saying). IsSaid q y.side y.act) same are.1;
    }
said_at at (x ∷ sayings) (q ∷ records) (suc n) s are is =
    let next = said_at (at + length (framed q)) sayings records n s are.2 is in
    let place = next.place in
    let long = length-append (framed q) (journal (take n records)) in
    record {
      it = next.it;
      after = next.after;
      split = ap (λ (l : List (List ℕ)). q ∷ l) next.split;
      place = omega (arith, place, long);
      said = next.said;
    }

-- there are as many
pub length_said : (at : ℕ) (sayings : List Saying) (records : List (List ℕ))
    → AreSaid at sayings records
    → length sayings ≡ length records
length_said at [] [] are = refl
length_said at [] (q ∷ records) are = absurd are
length_said at (x ∷ sayings) [] are = absurd are
length_said at (x ∷ sayings) (q ∷ records) are =
    ap suc (length_said (at + length (framed q)) sayings records are.2)

-- what stands behind a place
pub behind_it : (records after : List (List ℕ)) (n : ℕ) (it : List ℕ)
    → records ≡ take n records ++ it ∷ after
    → drop n records ≡ it ∷ after
behind_it records after n it is =
    append_cancel_left (take n records) (drop n records) (it ∷ after)
    (take-append-drop n records ∙ is)

-- ---- the sayings of one end

records_at-here : (side : Side) (q : List ℕ) (records : List (List ℕ))
    → is_of (letter side) q ≡ true
    → records_at side (q ∷ records) ≡ q ∷ records_at side records
records_at-here side q records is = rw is refl

records_at-there : (side : Side) (q : List ℕ) (records : List (List ℕ))
    → is_of (letter side) q ≡ false
    → records_at side (q ∷ records) ≡ records_at side records
records_at-there side q records is = rw is refl

acts_said-cons : (side : Side) (s : Saying) (sayings : List Saying)
    → acts_said side (s ∷ sayings)
    ≡ cons_option (act_said side s.side s.act) (acts_said side sayings)
unfolding acts_said
acts_said-cons side s sayings = refl

zip_nothing : (side : Side) → AllZip (IsRecordOf side) (acts_said side []) (records_at side [])
unfolding acts_said
zip_nothing side = tt

-- the records of an end say what is said of it
pub zip_said : (side : Side) (at : ℕ) (sayings : List Saying) (records : List (List ℕ)) (n : ℕ)
    → AreSaid at sayings records
    → All (SaysAct side) (take n sayings)
    → AllZip (IsRecordOf side) (acts_before side sayings n) (records_at side (take n records))
zip_said side at sayings records zero are acts = zip_nothing side
zip_said side at [] [] (suc n) are acts = zip_nothing side
zip_said side at [] (q ∷ records) (suc n) are acts = absurd are
zip_said side at (x ∷ sayings) [] (suc n) are acts = absurd are
zip_said side at (x ∷ sayings) (q ∷ records) (suc n) are acts =
    let rest = zip_said side (at + length (framed q)) sayings records n are.2
    (All-tail (SaysAct side) x (take n sayings) acts) in
    let first = All-head (SaysAct side) x (take n sayings) acts in
    ⊎_elim
    (λ (here : x.side ≡ side).
    let said = subst (λ (z : Side). IsSaid q z x.act) here are.1 in
    rw (
      acts_said-cons side x (take n sayings),
      records_at-here side q (take n records) (is_here q side x.act said),
    )
    (subst
    (λ (z : Side). AllZip (IsRecordOf side)
    (cons_option (act_said side z x.act) (acts_said side (take n sayings)))
    (q ∷ records_at side (take n records)))
    (sym here)
    (rw (act_said-same side x.act) (one x.act said (first here) rest))))
    (λ (there : x.side ≡ other side).
    let said = subst (λ (z : Side). IsSaid q z x.act) there are.1 in
    rw (
      acts_said-cons side x (take n sayings),
      records_at-there side q (take n records) (is_there q side x.act said),
    )
    (subst
    (λ (z : Side). AllZip (IsRecordOf side)
    (cons_option (act_said side z x.act) (acts_said side (take n sayings)))
    (records_at side (take n records)))
    (sym there)
    (rw (act_said-other side x.act) rest)))
    (cases_side side x.side)
  where
    one : (o : Option Act)
        → IsSaid q side o
        → o ≢ None
        → AllZip (IsRecordOf side) (acts_said side (take n sayings)) (records_at side (take n records))
        → AllZip (IsRecordOf side) (cons_option o (acts_said side (take n sayings)))
        (q ∷ records_at side (take n records))
    one None said some rest = absurd (some refl)
    one (Some act) said some rest = (said.0, rest)

-- each record of an end says at most one act
pub one_each : (side : Side) (at : ℕ) (sayings : List Saying) (records : List (List ℕ))
    → AreSaid at sayings records
    → All (SaysOne side) (records_at side records)
one_each side at [] [] are = All-nil (SaysOne side)
one_each side at [] (q ∷ records) are = absurd are
one_each side at (x ∷ sayings) [] are = absurd are
one_each side at (x ∷ sayings) (q ∷ records) are =
    let rest = one_each side (at + length (framed q)) sayings records are.2 in
    ⊎_elim
    (λ (here : x.side ≡ side).
    let said = subst (λ (z : Side). IsSaid q z x.act) here are.1 in
    rw (records_at-here side q records (is_here q side x.act said))
    (All-cons (SaysOne side) q (records_at side records) (one x.act said) rest))
    (λ (there : x.side ≡ other side).
    let said = subst (λ (z : Side). IsSaid q z x.act) there are.1 in
    rw (records_at-there side q records (is_there q side x.act said)) rest)
    (cases_side side x.side)
  where
    one : (o : Option Act) → IsSaid q side o → SaysOne side q
    one (Some act) said = said.1
    one None said = λ a b says _. absurd (said.none a says)
