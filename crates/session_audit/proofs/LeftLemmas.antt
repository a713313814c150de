-- The record at which the replay of a journal halts: there is one, whatever the order of the replay.
use Rattle.std.proofs.Common.{ℕ, ◌≡◌, ◌≤◌, true, false, List, [], ◌∷◌, ◌++◌, ◌⊎◌, inl, inr, ⊎_elim, refl, sym, ap, subst, ◌∙◌, arith, eqb, length, length-append}
use Rattle.std.specs.List.{All, AllZip}
use Rattle.std.proofs.lemmas.Bool.{eq-eqb}
use Rattle.std.proofs.lemmas.List.{append_cancel_left}
use Rattle.std.proofs.lemmas.List.Elements.{All-head, All-tail, filter-append}
use Rattle.chan_values.specs.declared.side.Side.{Side}
use Rattle.chan_values.specs.declared.side.Side.TheVariants.{Plugin, Agent}
use Rattle.chan_values.specs.Sides.{other}
use Rattle.channel_core.specs.Laws.{IsPrefixOf}
use Rattle.channel_core.proofs.WorldLemmas.{cases_side, other-other}
use Rattle.session_audit.specs.declared.act.Act.{Act}
use Rattle.session_audit.specs.declared.verdict.Totals.{Totals}
use Rattle.session_audit.specs.declared.verdict.Why.{Why}
use Rattle.session_audit.specs.Journal.{IsRecordOf, is_of, journal, letter, records_at}
use Rattle.session_audit.specs.Moves.{Move, acts_at, replay_world}
use Rattle.session_audit.specs.Replay.{replay}
use Rattle.session_audit.specs.Verdict.{IsAccepted, IsKindOf, IsLeft, SaysOne, VerdictIsOne, totals_of}
use Rattle.session_audit.proofs.AcceptLemmas.{accepted_is_explained, explained_is_not_left}
use Rattle.session_audit.proofs.MoveLemmas.{history_of-replay}
use Rattle.channel_core.specs.Call.{Entry}
use Rattle.channel_core.specs.History.{put_items, released_items}
use Rattle.channel_core.specs.World.{history_of}
use Rattle.session_audit.proofs.HaltLemmas.{halts_agree}

-- ---- the first record that is left

-- the letters differ
pub letter-apart : (side : Side) → eqb (letter (other side)) (letter side) ≡ false
letter-apart Plugin = refl
letter-apart Agent = refl

-- a record of a kind begins with the letter of its end
kind_begins : (side : Side) (r : List ℕ) (why : Why)
    → IsKindOf side r why
    → is_of (letter side) r ≡ true
kind_begins side r Why.NotEmitted kind =
    rw kind.1 (eq-eqb (letter side) (letter side) refl)
kind_begins side r Why.Unheard kind =
    rw kind.1 (eq-eqb (letter side) (letter side) refl)
kind_begins side r why kind = absurd kind

-- records with one more of this end
records_at-behind : (side : Side) (before after : List (List ℕ)) (it : List ℕ)
    → is_of (letter side) it ≡ true
    → records_at side (before ++ it ∷ after) ≡ records_at side before ++ it ∷ records_at side after
records_at-behind side before after it is =
    filter-append (is_of (letter side)) before (it ∷ after) ∙ rw is refl

-- a list is split at one place, or one of the splits comes before the other
splits : {X : Type 0} (xs ys : List X) (x y : X) (more rest : List X)
    → xs ++ x ∷ more ≡ ys ++ y ∷ rest
    → ((xs ≡ ys) × (x ≡ y))
    ⊎ (((mid : List X) × (ys ≡ xs ++ x ∷ mid))
    ⊎ ((mid : List X) × (xs ≡ ys ++ y ∷ mid)))
splits [] [] x y more rest is = inl (refl, cc)
splits {X} [] (z ∷ ys) x y more rest is =
    let first : x ≡ z = cc in inr (inl (ys, ap (λ (u : X). u ∷ ys) (sym first)))
splits {X} (z ∷ xs) [] x y more rest is =
    let first : z ≡ y = cc in inr (inr (xs, ap (λ (u : X). u ∷ xs) first))
splits {X} (z ∷ xs) (u ∷ ys) x y more rest is =
    let first : z ≡ u = cc in
    let tail : xs ++ x ∷ more ≡ ys ++ y ∷ rest = cc in
    at first (splits xs ys x y more rest tail)
  where
    at : z ≡ u
        → ((xs ≡ ys) × (x ≡ y))
        ⊎ (((mid : List X) × (ys ≡ xs ++ x ∷ mid))
        ⊎ ((mid : List X) × (xs ≡ ys ++ y ∷ mid)))
        → ((z ∷ xs ≡ u ∷ ys) × (x ≡ y))
        ⊎ (((mid : List X) × (u ∷ ys ≡ (z ∷ xs) ++ x ∷ mid))
        ⊎ ((mid : List X) × (z ∷ xs ≡ (u ∷ ys) ++ y ∷ mid)))
    at first (inl same) =
        inl (ap (λ (v : X). v ∷ xs) first ∙ ap (λ (l : List X). u ∷ l) same.0, same.1)
    at first (inr (inl later)) =
        inr
        (inl (
          later.0,
          ap (λ (v : X). v ∷ ys) (sym first) ∙ ap (λ (l : List X). z ∷ l) later.1,
        ))
    at first (inr (inr sooner)) =
        inr
        (inr (
          sooner.0,
          ap (λ (v : X). v ∷ xs) first ∙ ap (λ (l : List X). u ∷ l) sooner.1,
        ))

-- what stands before the first record that is left holds no more of any end than was done
bounded : (w : ℕ) (records : List (List ℕ)) (place : ℕ) (why : Why)
    → (x : IsLeft w records place why)
    → (side : Side)
    → length (records_at side x.before) ≤ length (x.halted.done side)
bounded w records place why x side =
    ⊎_elim
    (λ (here : x.side ≡ side).
    let same = subst
    (λ (s : Side). records_at s x.before ≡ x.halted.done s) here x.here in
    rw same (omega arith))
    (λ (there : x.side ≡ other side).
    let back : other x.side ≡ side = ap other there ∙ other-other side in
    let front = subst
    (λ (s : Side). IsPrefixOf (records_at s x.before) (x.halted.done s)) back x.there in
    let long = ap (λ (l : List (List ℕ)). length l) front.1 in
    let sum = length-append (records_at side x.before) front.0 in
    omega (arith, long, sum))
    (cases_side side x.side)

-- so a record that is left can't stand before another that is the first
not_before : (w : ℕ) (records : List (List ℕ)) (p q : ℕ) (a b : Why)
    → ((side : Side) → All (SaysOne side) (records_at side records))
    → (x : IsLeft w records p a)
    → (y : IsLeft w records q b)
    → (mid : List (List ℕ))
    → y.before ≡ x.before ++ x.it ∷ mid
    → ⊥
not_before w records p q a b one x y mid is =
    let agree = halts_agree w records x.moves y.moves one x.halted y.halted x.side in
    let most = bounded w records q b y x.side in
    let begins = kind_begins x.side x.it a x.kind in
    let parts : records_at x.side y.before
    ≡ records_at x.side x.before ++ x.it ∷ records_at x.side mid
    = ap (records_at x.side) is ∙ records_at-behind x.side x.before mid x.it begins in
    let long = ap (λ (l : List (List ℕ)). length l) parts in
    let sum = length-append (records_at x.side x.before) (x.it ∷ records_at x.side mid) in
    let here = ap (λ (l : List (List ℕ)). length l) x.here in
    let done = ap (λ (l : List (List ℕ)). length l) agree in
    omega (arith, most, long, sum, here, done)

-- the kind of a record tells the reason
same_kind : (side too : Side) (r : List ℕ) (a b : Why)
    → IsKindOf side r a
    → IsKindOf too r b
    → a ≡ b
same_kind side too r Why.NotEmitted Why.NotEmitted x y = refl
same_kind side too r Why.Unheard Why.Unheard x y = refl
same_kind side too r Why.NotEmitted Why.Unheard x y =
    let same : letter side ∷ 0 ∷ x.0 ≡ letter too ∷ 1 ∷ y.0 = sym x.1 ∙ y.1 in absurd (cc)
same_kind side too r Why.Unheard Why.NotEmitted x y =
    let same : letter side ∷ 1 ∷ x.0 ≡ letter too ∷ 0 ∷ y.0 = sym x.1 ∙ y.1 in absurd (cc)
same_kind side too r Why.NotEmitted b x y = absurd y
same_kind side too r Why.Unheard b x y = absurd y
same_kind side too r a b x y = absurd x

left_same : (w : ℕ) (records : List (List ℕ)) (p q : ℕ) (a b : Why)
    → ((side : Side) → All (SaysOne side) (records_at side records))
    → IsLeft w records p a
    → IsLeft w records q b
    → (p ≡ q) × (a ≡ b)
left_same w records p q a b one x y =
    ⊎_elim
    (λ (same : (x.before ≡ y.before) × (x.it ≡ y.it)). (
      x.place_is ∙ ap (λ (l : List (List ℕ)). length (journal l)) same.0 ∙ sym y.place_is,
      same_kind x.side y.side x.it a b x.kind
          (subst (λ (r : List ℕ). IsKindOf y.side r b) (sym same.1) y.kind),
    ))
    (λ apart. ⊎_elim
    (λ (later : (mid : List (List ℕ)) × (y.before ≡ x.before ++ x.it ∷ mid)).
    absurd (not_before w records p q a b one x y later.0 later.1))
    (λ (sooner : (mid : List (List ℕ)) × (x.before ≡ y.before ++ y.it ∷ mid)).
    absurd (not_before w records q p b a one y x sooner.0 sooner.1))
    apart)
    (splits x.before y.before x.it y.it x.after y.after (sym x.split ∙ y.split))

left_refused : (w : ℕ) (records : List (List ℕ)) (place : ℕ) (why : Why) (totals : Totals)
    → 1 ≤ w
    → ((side : Side) → All (SaysOne side) (records_at side records))
    → IsLeft w records place why
    → IsAccepted w records totals
    → ⊥
left_refused w records place why totals some one x accepted =
    let none = explained_is_not_left w records x.moves some one
    (accepted_is_explained w records totals accepted).0 x.halted x.side in
    let begins = kind_begins x.side x.it why x.kind in
    let all : x.halted.done x.side ++ x.halted.left x.side
    ≡ x.halted.done x.side ++ x.it ∷ records_at x.side x.after
    = x.halted.split x.side
    ∙ ap (records_at x.side) x.split
    ∙ records_at-behind x.side x.before x.after x.it begins
    ∙ ap (λ (l : List (List ℕ)). l ++ x.it ∷ records_at x.side x.after) x.here in
    let left = append_cancel_left (x.halted.done x.side) (x.halted.left x.side)
    (x.it ∷ records_at x.side x.after) all in
    let never : x.it ∷ records_at x.side x.after ≡ [] = sym left ∙ none in
    absurd (cc)

-- ---- the totals

same_acts : (side : Side) (acts others : List Act) (records : List (List ℕ))
    → All (SaysOne side) records
    → AllZip (IsRecordOf side) acts records
    → AllZip (IsRecordOf side) others records
    → acts ≡ others
same_acts side [] [] records one all some = refl
same_acts side [] (b ∷ others) [] one all some = absurd some
same_acts side [] (b ∷ others) (r ∷ records) one all some = absurd all
same_acts side (a ∷ acts) [] [] one all some = absurd all
same_acts side (a ∷ acts) [] (r ∷ records) one all some = absurd some
same_acts side (a ∷ acts) (b ∷ others) [] one all some = absurd all
same_acts side (a ∷ acts) (b ∷ others) (r ∷ records) one all some =
    let first : a ≡ b = All-head (SaysOne side) r records one a b all.0 some.0 in
    ap (λ (x : Act). x ∷ acts) first
    ∙ ap
    (λ (l : List Act). b ∷ l)
    (same_acts side acts others records (All-tail (SaysOne side) r records one) all.1 some.1)

-- the totals, read off the two histories
abbrev pub totals_from : List Entry → List Entry → Totals
totals_from plugin agent =
    record {
      sent_p = length (put_items plugin);
      sent_a = length (put_items agent);
      released_a = length (released_items agent);
      released_p = length (released_items plugin);
    }

pub totals_told : (w : ℕ) (moves : List Move)
    → totals_of (replay_world w moves)
    ≡ totals_from (replay w (acts_at Plugin moves)) (replay w (acts_at Agent moves))
totals_told w moves =
    ap
    (λ (h : List Entry). totals_from h (history_of Agent (replay_world w moves)))
    (history_of-replay w moves Plugin)
    ∙ ap
    (λ (h : List Entry). totals_from (replay w (acts_at Plugin moves)) h)
    (history_of-replay w moves Agent)

totals_same : (w : ℕ) (records : List (List ℕ)) (totals others : Totals)
    → ((side : Side) → All (SaysOne side) (records_at side records))
    → IsAccepted w records totals
    → IsAccepted w records others
    → totals ≡ others
totals_same w records totals others one x y =
    let same : (side : Side) → acts_at side x.moves ≡ acts_at side y.moves
    = λ side. same_acts side _ _ (records_at side records) (one side) (x.shown side) (y.shown side) in
    x.totals_are
    ∙ totals_told w x.moves
    ∙ ap
    (λ (l : List Act). totals_from (replay w l) (replay w (acts_at Agent x.moves)))
    (same Plugin)
    ∙ ap
    (λ (l : List Act). totals_from (replay w (acts_at Plugin y.moves)) (replay w l))
    (same Agent)
    ∙ sym (totals_told w y.moves)
    ∙ sym y.totals_are

pub verdict_is_one : VerdictIsOne
verdict_is_one = record { same = left_same; refused = left_refused; totals = totals_same }
