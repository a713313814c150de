-- Which journals are accepted.
use Rattle.std.proofs.Common.{ℕ, ◌≡◌, List, [], ◌∷◌, ◌++◌, refl, sym, ap, subst, ◌∙◌}
use Rattle.std.specs.List.{All, AllZip}
use Rattle.std.proofs.lemmas.List.{append-nil, append_cancel_left}
use Rattle.std.proofs.lemmas.List.Elements.{All-head, All-tail}
use Rattle.chan_values.specs.declared.side.Side.{Side}
use Rattle.session_audit.specs.declared.act.Act.{Act}
use Rattle.session_audit.specs.Journal.{IsRecordOf}
use Rattle.session_audit.specs.Laws.{IsStuck}
use Rattle.session_audit.specs.Moves.{Move, acts_at, moves_of, replay_world}
use Rattle.session_audit.specs.Verdict.{AcceptedIsExplained, AreRecords, ExplainedIsAccepted, ExplainedIsNotLeft, SaysOne, totals_of}
use Rattle.session_audit.proofs.OrderLemmas.{stuck_is_done}
use Rattle.session_audit.proofs.RunLemmas.{run_is_world}
use Rattle.session_audit.proofs.WorldRunLemmas.{world_is_run}

pub accepted_is_explained : AcceptedIsExplained
accepted_is_explained w records totals accepted =
    let is = run_is_world w accepted.moves accepted.run in
    let world = replay_world w accepted.moves in (
      (world, is.0, subst (λ (ms : List Move). AreRecords ms records) (sym is.1) accepted.shown),
      accepted.totals_are,
    )

pub explained_is_accepted : ExplainedIsAccepted
explained_is_accepted w records some explained =
    let moves = moves_of explained.0 in (
      totals_of (replay_world w moves),
      record {
        moves = moves;
        run = world_is_run w explained.0 some explained.1;
        shown = explained.2;
        totals_are = refl;
      },
    )

-- what shows the front of a list of records is the front of what shows the list
front_shown : (side : Side) (acts fewer : List Act) (done left : List (List ℕ))
    → All (SaysOne side) (done ++ left)
    → AllZip (IsRecordOf side) acts (done ++ left)
    → AllZip (IsRecordOf side) fewer done
    → (rest : List Act) × (fewer ++ rest ≡ acts) × AllZip (IsRecordOf side) rest left
front_shown side acts [] [] left one all some = (acts, refl, all)
front_shown side acts [] (r ∷ done) left one all some = absurd some
front_shown side acts (a ∷ fewer) [] left one all some = absurd some
front_shown side [] (a ∷ fewer) (r ∷ done) left one all some = absurd all
front_shown side (b ∷ acts) (a ∷ fewer) (r ∷ done) left one all some =
    let same = All-head (SaysOne side) r (done ++ left) one a b some.0 all.0 in
    let next = front_shown side acts fewer done left
    (All-tail (SaysOne side) r (done ++ left) one) all.1 some.1 in (
      next.0,
      ap (λ (x : Act). x ∷ (fewer ++ next.0)) same ∙ ap (λ (l : List Act). b ∷ l) next.1,
      next.2,
    )

-- what shows no more acts has no more records
none_left : (side : Side) (left : List (List ℕ))
    → AllZip (IsRecordOf side) [] left
    → left ≡ []
none_left side [] all = refl
none_left side (r ∷ left) all = absurd all

-- the first act that is left is that of the first record that is left
first_left : (side : Side) (act : Act) (acts : List Act) (left : List (List ℕ))
    → AllZip (IsRecordOf side) (act ∷ acts) left
    → (r : List ℕ) × (rest : List (List ℕ)) × (left ≡ r ∷ rest) × IsRecordOf side act r
first_left side act acts [] all = absurd all
first_left side act acts (r ∷ rest) all = (r, rest, refl, all.0)

pub explained_is_not_left : ExplainedIsNotLeft
explained_is_not_left w records moves some one explained halted side =
    let done = stuck_is_done w acts explained.0 moves some explained.1 (λ s. refl)
    (record {
      run = halted.run;
      front = λ s. ((rest_of s).0, (rest_of s).1);
    })
    stuck side in
    let rest = rest_of side in
    let nothing : rest.0 ≡ []
    = append_cancel_left (acts_at side moves) rest.0 []
    (rest.1 ∙ sym done ∙ sym (append-nil (acts_at side moves))) in
    none_left side (halted.left side)
    (subst (λ (l : List Act). AllZip (IsRecordOf side) l (halted.left side)) nothing rest.2)
  where
    acts : Side → List Act
    acts s = acts_at s (moves_of explained.0)

    Rest : Side → Type 0
    Rest s =
        (rest : List Act)
        × (acts_at s moves ++ rest ≡ acts s)
        × AllZip (IsRecordOf s) rest (halted.left s)

    rest_of : (s : Side) → Rest s
    rest_of s =
        front_shown s (acts s) (acts_at s moves) (halted.done s) (halted.left s)
        (subst (All (SaysOne s)) (sym (halted.split s)) (one s))
        (subst (AllZip (IsRecordOf s) (acts s)) (sym (halted.split s)) (explained.2 s))
        (halted.shown s)

    stuck : IsStuck w acts moves
    stuck s act more is can =
        let rest = rest_of s in
        let same : rest.0 ≡ act ∷ more
        = append_cancel_left (acts_at s moves) rest.0 (act ∷ more) (rest.1 ∙ sym is) in
        let first = first_left s act more (halted.left s)
        (subst (λ (l : List Act). AllZip (IsRecordOf s) l (halted.left s)) same rest.2) in
        halted.stuck s act first.0 first.1 first.2 first.3 can
