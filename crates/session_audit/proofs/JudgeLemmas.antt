-- Two ends that came to a halt: their journal is accepted, or a record of it is left.
use Rattle.std.proofs.Common.{◌≡◌, ℕ, ◌≤◌, true, zero, suc, Option, Some, None, List, [], ◌∷◌, ◌++◌, ◌⊎◌, inl, inr, ⊎_elim, refl, sym, ap, subst, ◌∙◌, arith, drop, length, slice_get, take}
use Rattle.std.specs.List.{All, AllZip}
use Rattle.std.proofs.lemmas.List.{append-nil, take-append-drop}
use Rattle.std.proofs.lemmas.List.Elements.{filter-append}
use Rattle.chan_values.specs.declared.side.Side.{Side}
use Rattle.chan_values.specs.declared.side.Side.TheVariants.{Plugin, Agent}
use Rattle.chan_values.specs.Sides.{other}
use Rattle.channel_core.specs.Laws.{IsPrefixOf}
use Rattle.session_audit.specs.declared.act.Act.{Act}
use Rattle.session_audit.specs.declared.reading.Saying.{Saying}
use Rattle.session_audit.specs.Acts.{acts_of}
use Rattle.session_audit.specs.Halting.{BothHeld, BothPlayed}
use Rattle.session_audit.specs.Journal.{IsRecordOf, is_of, letter, records_at}
use Rattle.session_audit.specs.Judging.{why_of}
use Rattle.session_audit.specs.Moves.{CanMove, Move, acts_at, move_of}
use Rattle.session_audit.specs.Playing.{IsHeld, SaysAct, SeatState, acts_before}
use Rattle.session_audit.specs.Readings.{AreSaid, IsSaid}
use Rattle.session_audit.specs.Verdict.{AreRecords, IsHalted, IsKindOf, IsLeft}
use Rattle.session_audit.proofs.SayingLemmas.{behind_it, is_here, length_said, said_at, zip_said}

-- ---- one end

-- the records of an end that are done, and those that are left
abbrev pub done_at : Side → List (List ℕ) → ℕ → List (List ℕ)
done_at side records n = records_at side (take n records)

abbrev pub left_at : Side → List (List ℕ) → ℕ → List (List ℕ)
left_at side records n = records_at side (drop n records)

split_at : (side : Side) (records : List (List ℕ)) (n : ℕ)
    → done_at side records n ++ left_at side records n ≡ records_at side records
split_at side records n =
    sym (filter-append (is_of (letter side)) (take n records) (drop n records))
    ∙ ap (records_at side) (take-append-drop n records)

-- nothing is behind the end
drop_past : {X : Type 0} (xs : List X) (n : ℕ) → length xs ≤ n → drop n xs ≡ []
drop_past [] zero past = refl
drop_past [] (suc n) past = refl
drop_past (x ∷ xs) zero past = absurd (omega (arith, past))
drop_past (x ∷ xs) (suc n) past = drop_past xs n (omega (arith, past))

take_past : {X : Type 0} (xs : List X) (n : ℕ) → length xs ≤ n → take n xs ≡ xs
take_past {X} xs n past =
    sym (append-nil (take n xs))
    ∙ ap (λ (l : List X). take n xs ++ l) (sym (drop_past xs n past))
    ∙ take-append-drop n xs

nothing_at : (side : Side) → records_at side [] ≡ []
nothing_at side = refl

-- a list has an element at a place, or ends before it
pub at_place : {X : Type 0} (xs : List X) (n : ℕ)
    → ((x : X) × (slice_get xs n ≡ Some x)) ⊎ (length xs ≤ n)
at_place [] n = inr (omega arith)
at_place (x ∷ xs) zero = inl (x, refl)
at_place (x ∷ xs) (suc n) =
    ⊎_elim (λ there. inl there) (λ past. inr (omega (arith, past))) (at_place xs n)

-- what is held can't be moved
stuck_at : (w : ℕ) (side : Side) (sayings : List Saying) (records : List (List ℕ))
    (moves : List Move) (n : ℕ)
    → AreSaid 0 sayings records
    → IsHeld w side sayings moves n
    → (act : Act) (r : List ℕ) (rest : List (List ℕ))
    → left_at side records n ≡ r ∷ rest
    → IsRecordOf side act r
    → CanMove w moves (move_of side act)
    → ⊥
stuck_at w side sayings records moves n are held act r rest is says can =
    ⊎_elim
    (λ (there : (s : Saying) × (slice_get sayings n ≡ Some s)).
    let at = said_at 0 sayings records n there.0 are there.1 in
    let h = held there.0 there.1 in
    let said : IsSaid at.it side there.0.act
    = subst (λ (z : Side). IsSaid at.it z there.0.act) h.0 at.said in
    let first : at.it ∷ records_at side at.after ≡ r ∷ rest
    = sym (here at.it at.after (is_here at.it side there.0.act said))
    ∙ ap (records_at side) (sym (behind_it records at.after n at.it at.split))
    ∙ is in
    let same : at.it ≡ r = cc in
    cannot at.it there.0.act said h.1 (subst (IsRecordOf side act) (sym same) says) can)
    (λ (past : length sayings ≤ n).
    let long = length_said 0 sayings records are in
    let none : left_at side records n ≡ []
    = ap (records_at side) (drop_past records n (omega (arith, past, long))) in
    let never : r ∷ rest ≡ [] = sym is ∙ none in
    absurd (cc))
    (at_place sayings n)
  where
    here : (it : List ℕ) (after : List (List ℕ))
        → is_of (letter side) it ≡ true
        → records_at side (it ∷ after) ≡ it ∷ records_at side after
    here it after is = rw is refl

    cannot : (it : List ℕ) (o : Option Act)
        → IsSaid it side o
        → ((a : Act) → o ≡ Some a → CanMove w moves (move_of side a) → ⊥)
        → IsRecordOf side act it
        → CanMove w moves (move_of side act)
        → ⊥
    cannot it None said refuses says can = said.none act says
    cannot it (Some a) said refuses says can =
        refuses a refl
        (subst (λ (b : Act). CanMove w moves (move_of side b)) (said.1 act a says said.0) can)

-- ---- both ends

-- the place of an end
abbrev pub place_of : SeatState → SeatState → Side → ℕ
place_of plugin agent Plugin = plugin.next
place_of plugin agent Agent = agent.next

played_at : (w : ℕ) (sayings : List Saying) (moves : List Move) (plugin agent : SeatState)
    → BothPlayed w sayings moves plugin agent
    → (side : Side)
    → All (SaysAct side) (take (place_of plugin agent side) sayings)
    × (acts_at side moves ≡ acts_before side sayings (place_of plugin agent side))
played_at w sayings moves plugin agent b Plugin = (b.plugin_played.said, b.plugin_done)
played_at w sayings moves plugin agent b Agent = (b.agent_played.said, b.agent_done)

held_side : (w : ℕ) (sayings : List Saying) (moves : List Move) (plugin agent : SeatState)
    → BothHeld w sayings moves plugin agent
    → (side : Side)
    → IsHeld w side sayings moves (place_of plugin agent side)
held_side w sayings moves plugin agent held Plugin = held.0
held_side w sayings moves plugin agent held Agent = held.1

-- what is done at an end
shown_at : (w : ℕ) (sayings : List Saying) (records : List (List ℕ)) (moves : List Move)
    (plugin agent : SeatState)
    → AreSaid 0 sayings records
    → BothPlayed w sayings moves plugin agent
    → (side : Side)
    → AllZip (IsRecordOf side) (acts_at side moves)
    (done_at side records (place_of plugin agent side))
shown_at w sayings records moves plugin agent are b side =
    let p = played_at w sayings moves plugin agent b side in
    subst
    (λ (l : List Act). AllZip (IsRecordOf side) l (done_at side records (place_of plugin agent side)))
    (sym p.1)
    (zip_said side 0 sayings records (place_of plugin agent side) are p.0)

pub both_halted : (w : ℕ) (sayings : List Saying) (records : List (List ℕ)) (moves : List Move)
    (plugin agent : SeatState)
    → AreSaid 0 sayings records
    → BothPlayed w sayings moves plugin agent
    → BothHeld w sayings moves plugin agent
    → IsHalted w records moves
both_halted w sayings records moves plugin agent are b held =
    record {
      run = b.run;
      done = λ side. done_at side records (place_of plugin agent side);
      left = λ side. left_at side records (place_of plugin agent side);
      split = λ side. split_at side records (place_of plugin agent side);
      shown = shown_at w sayings records moves plugin agent are b;
      stuck = λ side.
          stuck_at w side sayings records moves (place_of plugin agent side) are
          (held_side w sayings moves plugin agent held side);
    }

-- all records are shown where both ends came to the end
pub all_shown : (w : ℕ) (sayings : List Saying) (records : List (List ℕ)) (moves : List Move)
    (plugin agent : SeatState)
    → AreSaid 0 sayings records
    → BothPlayed w sayings moves plugin agent
    → ((side : Side) → length sayings ≤ place_of plugin agent side)
    → AreRecords moves records
all_shown w sayings records moves plugin agent are b past side =
    let long = length_said 0 sayings records are in
    let ended = past side in
    subst
    (λ (l : List (List ℕ)). AllZip (IsRecordOf side) (acts_at side moves) (records_at side l))
    (take_past records (place_of plugin agent side) (omega (arith, long, ended)))
    (shown_at w sayings records moves plugin agent are b side)

-- ---- a record that is left

-- an opening, a loss and a close can always be done
bare_moves : (w : ℕ) (side : Side) (moves : List Move)
    → CanMove w moves (move_of side Act.Opens)
    × CanMove w moves (move_of side Act.Loses)
    × CanMove w moves (move_of side Act.Closes)
unfolding acts_of
bare_moves w side moves = (
  record { replays = refl; heard = tt },
  record { replays = refl; heard = tt },
  record { replays = refl; heard = tt },
)

-- so what is left is of a message
kind_left : (w : ℕ) (side : Side) (moves : List Move) (it : List ℕ) (o : Option Act)
    → IsSaid it side o
    → ((act : Act) → o ≡ Some act → CanMove w moves (move_of side act) → ⊥)
    → IsKindOf side it (why_of o)
kind_left w side moves it None said refuses = said.kind
kind_left w side moves it (Some (Act.Emits out)) said refuses = (_, said.0.1)
kind_left w side moves it (Some (Act.Hears incoming)) said refuses = (said.0.0, said.0.1)
kind_left w side moves it (Some Act.Opens) said refuses =
    absurd (refuses Act.Opens refl (bare_moves w side moves).0)
kind_left w side moves it (Some Act.Loses) said refuses =
    absurd (refuses Act.Loses refl (bare_moves w side moves).1)
kind_left w side moves it (Some Act.Closes) said refuses =
    absurd (refuses Act.Closes refl (bare_moves w side moves).2)

-- the records before a place are a prefix of those before a later one
prefix_at : (side : Side) (records : List (List ℕ)) (n m : ℕ)
    → n ≤ m
    → IsPrefixOf (done_at side records n) (done_at side records m)
prefix_at side records n m le = at records n m le
  where
    apart : (q : List ℕ) (records : List (List ℕ))
        → records_at side (q ∷ records) ≡ records_at side (q ∷ []) ++ records_at side records
    apart q records = filter-append (is_of (letter side)) (q ∷ []) records

    over : (xs ys zs : List (List ℕ)) → (xs ++ ys) ++ zs ≡ xs ++ (ys ++ zs)
    over [] ys zs = refl
    over (x ∷ xs) ys zs = ap (λ (l : List (List ℕ)). x ∷ l) (over xs ys zs)

    at : (records : List (List ℕ)) (n m : ℕ)
        → n ≤ m
        → IsPrefixOf (records_at side (take n records)) (records_at side (take m records))
    at records zero m le = (records_at side (take m records), refl)
    at [] (suc n) m le = (records_at side (take m []), refl)
    at (q ∷ records) (suc n) zero le = absurd (omega (arith, le))
    at (q ∷ records) (suc n) (suc m) le =
        let rest = at records n m (omega (arith, le)) in (
          rest.0,
          ap (λ (l : List (List ℕ)). l ++ rest.0) (apart q (take n records))
              ∙ over (records_at side (q ∷ [])) (records_at side (take n records)) rest.0
              ∙ ap (λ (l : List (List ℕ)). records_at side (q ∷ []) ++ l) rest.1
              ∙ sym (apart q (take m records)),
        )

-- the first saying that is left, at the place of its end
pub left_of : (w : ℕ) (sayings : List Saying) (records : List (List ℕ)) (moves : List Move)
    (plugin agent : SeatState) (side : Side) (s : Saying)
    → AreSaid 0 sayings records
    → BothPlayed w sayings moves plugin agent
    → BothHeld w sayings moves plugin agent
    → place_of plugin agent side ≤ place_of plugin agent (other side)
    → slice_get sayings (place_of plugin agent side) ≡ Some s
    → IsLeft w records s.at (why_of s.act)
unfolding both_halted
left_of w sayings records moves plugin agent side s are b held first is =
    let n = place_of plugin agent side in
    let at = said_at 0 sayings records n s are is in
    let h = held_side w sayings moves plugin agent held side s is in
    let said : IsSaid at.it side s.act = subst (λ (z : Side). IsSaid at.it z s.act) h.0 at.said in
    let place = at.place in
    record {
      moves = moves;
      halted = both_halted w sayings records moves plugin agent are b held;
      before = take n records;
      it = at.it;
      after = at.after;
      split = at.split;
      place_is = omega (arith, place);
      side = side;
      kind = kind_left w side moves at.it s.act said h.1;
      here = refl;
      there = prefix_at (other side) records n (place_of plugin agent (other side)) first;
    }
