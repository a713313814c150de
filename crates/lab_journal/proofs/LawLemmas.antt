-- The journal of every script is that of its world.
use Rattle.std.proofs.Common.{◌≡◌, ℕ, ◌^◌, ◌<◌, true, false, Some, None, List, [], ◌∷◌, ◌++◌, ⊎_elim, refl, sym, ap, subst, ◌∙◌, arith}
use Rattle.std.specs.List.{All, AllZip, cons_option, filter, flat_map}
use Rattle.std.proofs.lemmas.List.Elements.{All-cons, All-nil, All-push}
use Rattle.chan_values.specs.declared.side.Side.{Side}
use Rattle.chan_values.specs.declared.side.Side.TheVariants.{Plugin, Agent}
use Rattle.chan_values.specs.Sides.{other}
use Rattle.channel_core.specs.Call.{Entry, with_earlier}
use Rattle.channel_core.specs.Legal.{IsNoMemory}
use Rattle.channel_core.specs.Wire.{encoding}
use Rattle.channel_core.specs.World.{Event, history_of}
use Rattle.channel_core.proofs.HistoryLemmas.{by_pushes}
use Rattle.channel_core.proofs.LegalLemmas.{All-pushed}
use Rattle.channel_core.proofs.WorldLemmas.{cases_side}
use Rattle.session_audit.specs.declared.act.Act.{Act}
use Rattle.session_audit.specs.Journal.{IsFormed, IsRecordOf, is_of, letter, records_at}
use Rattle.session_audit.specs.Moves.{Move, act_at, acts_at, moves_of}
use Rattle.session_audit.proofs.SplitLemmas.{explained_is_yes}
use Rattle.lab_script.specs.declared.command.Command.{Command}
use Rattle.lab_script.specs.Command.{IsCommand}
use Rattle.lab_run.specs.Ends.{AllSendable}
use Rattle.lab_run.specs.Run.{moment_after, progress, run}
use Rattle.lab_run.specs.Steps.{events_of, start, steps_of, world_of}
use Rattle.lab_run.proofs.RightLemmas.{IsRight-start}
use Rattle.lab_run.proofs.RunLemmas.{line-progress, progress-push, run-push, world_of-append, world_of-none}
use Rattle.lab_run.proofs.SendableLemmas.{every_emission_is_sendable}
use Rattle.lab_journal.specs.Laws.{JournalIsAccepted, JournalLaws, RecordsAreExplained, RecordsAreFormed, RecordsSayWorld}
use Rattle.lab_journal.specs.Records.{line_records, records_of, step_records, which_in}
use Rattle.lab_journal.proofs.IdLemmas.{BringsId}
use Rattle.lab_journal.proofs.LineLemmas.{moves_of-append, steps_known, steps_say}
use Rattle.lab_journal.proofs.RunLemmas.{records_of-push}
use Rattle.lab_journal.proofs.StepLemmas.{SaysMove, says_opening}
use Rattle.lab_journal.proofs.WorldLemmas.{IsKnown}

-- ---- before the first line

known_start : (w : ℕ) → IsKnown w start
unfolding history_of
known_start w =
    record {
      right = IsRight-start w;
      ids = λ side. at side;
      remembered =
          All-push Remembers (_ ∷ []) _ (All-push Remembers [] _ (All-nil Remembers) (λ never. never))
          (λ never. never);
    }
  where
    Remembers : Event → Type 0
    Remembers x = ¬ IsNoMemory x.entry.call x.entry.answer

    P : Entry → Type 0
    P e = BringsId e.call

    at : (side : Side) → All P (history_of side start)
    at Plugin = All-push P [] _ (All-nil P) tt
    at Agent = All-push P [] _ (All-nil P) tt

says_start : (w : ℕ) → AllZip SaysMove (moves_of start) (records_of w [])
unfolding moves_of records_of with_earlier
says_start w = (says_opening Plugin [], (says_opening Agent [], tt))

-- ---- line after line

-- what a run is after one line more
after_line : (w : ℕ) (commands : List Command) (command : Command)
    → let world = world_of (run w commands) in
    let before = progress w commands in
    world_of (run w (commands ++ command ∷ []))
    ≡ world ++ events_of (steps_of w world before.now before.line command)
after_line w commands command =
    let before = progress w commands in
    let steps = steps_of w (world_of (run w commands)) before.now before.line command in
    ap world_of (run-push w commands command before.now before.line refl (line-progress w commands))
    ∙ world_of-append (run w commands) steps

run_known : (w : ℕ) (commands : List Command) → IsKnown w (world_of (run w commands))
run_known w =
    by_pushes (λ (commands : List Command). IsKnown w (world_of (run w commands)))
    (subst (IsKnown w) (sym (world_of-none w)) (known_start w))
    (λ commands command known.
    let before = progress w commands in
    subst (IsKnown w) (sym (after_line w commands command))
    (steps_known w (world_of (run w commands)) before.now before.line command known))

-- the moment stays in range
moment_small : (now : ℕ) (command : Command) → now < 2 ^ 64 → IsCommand command
    → moment_after now command < 2 ^ 64
moment_small now (Command.At moment) small ranges = ranges
moment_small now Command.Settle small ranges = small
moment_small now (Command.On side action) small ranges = small

first_moment : (w : ℕ) → (progress w []).now < 2 ^ 64
unfolding progress
first_moment w = omega arith

run_small : (w : ℕ) (commands : List Command) → All IsCommand commands
    → (progress w commands).now < 2 ^ 64
run_small w =
    by_pushes (λ (commands : List Command). All IsCommand commands
    → (progress w commands).now < 2 ^ 64)
    (λ none. first_moment w)
    (λ commands command small ranges.
    let both = All-pushed IsCommand commands command ranges in
    subst (λ p. p.now < 2 ^ 64) (sym (progress-push w commands command))
    (moment_small (progress w commands).now command (small both.0) both.1))

AllZip-append : {A B : Type 0} (R : A → B → Type 0) (xs more : List A) (ys rest : List B)
    → AllZip R xs ys → AllZip R more rest → AllZip R (xs ++ more) (ys ++ rest)
AllZip-append R [] more [] rest first second = second
AllZip-append R [] more (y ∷ ys) rest first second = absurd first
AllZip-append R (x ∷ xs) more [] rest first second = absurd first
AllZip-append R (x ∷ xs) more (y ∷ ys) rest first second =
    (first.0, AllZip-append R xs more ys rest first.1 second)

-- the records of a script say what is seen of its world, and have no fault of form
run_says : (w : ℕ) (commands : List Command) → All IsCommand commands
    → AllZip SaysMove (moves_of (world_of (run w commands))) (records_of w commands)
run_says w =
    by_pushes (λ (commands : List Command). All IsCommand commands
    → AllZip SaysMove (moves_of (world_of (run w commands))) (records_of w commands))
    (λ _. subst (λ (world : List Event). AllZip SaysMove (moves_of world) (records_of w []))
    (sym (world_of-none w)) (says_start w))
    (λ commands command says ranges. one commands command says ranges)
  where
    one : (commands : List Command) (command : Command)
        → (All IsCommand commands
        → AllZip SaysMove (moves_of (world_of (run w commands))) (records_of w commands))
        → All IsCommand (commands ++ command ∷ [])
        → AllZip SaysMove (moves_of (world_of (run w (commands ++ command ∷ []))))
        (records_of w (commands ++ command ∷ []))
    one commands command says ranges =
        let world = world_of (run w commands) in
        let before = progress w commands in
        let steps = steps_of w world before.now before.line command in
        let both = All-pushed IsCommand commands command ranges in
        let after = after_line w commands command in
        let sendable = subst (λ (v : List Event). AllSendable v) after
        (every_emission_is_sendable w (commands ++ command ∷ []) ranges) in
        let line = steps_say w world before.now before.line command (run_known w commands)
        (run_small w commands both.0) sendable in
        let moves : moves_of (world_of (run w (commands ++ command ∷ [])))
        ≡ moves_of world ++ moves_of (events_of steps)
        = ap moves_of after ∙ moves_of-append world (events_of steps) in
        subst (λ (l : List Move). AllZip SaysMove l (records_of w (commands ++ command ∷ [])))
        (sym moves)
        (subst (AllZip SaysMove (moves_of world ++ moves_of (events_of steps)))
        (sym (records_of-push w commands command))
        (AllZip-append SaysMove (moves_of world) (moves_of (events_of steps))
        (records_of w commands) (line_records w commands command) (says both.0) line))

-- ---- one end at a time

-- a record begins with the letter of its end
begins : (side : Side) (act : Act) (r : List ℕ) → IsRecordOf side act r
    → (rest : List ℕ) × (r ≡ letter side ∷ rest)
begins side (Act.Emits out) r says = (0 ∷ encoding side out, says.1)
begins side (Act.Hears incoming) r says = (1 ∷ says.0, says.1)
begins side Act.Opens r says = (2 ∷ [], says)
begins side Act.Loses r says = (3 ∷ [], says)
begins side Act.Closes r says = (4 ∷ [], says)

same_letter : (side : Side) (rest : List ℕ) → is_of (letter side) (letter side ∷ rest) ≡ true
same_letter Plugin rest = refl
same_letter Agent rest = refl

other_letter : (side : Side) (rest : List ℕ)
    → is_of (letter side) (letter (other side) ∷ rest) ≡ false
other_letter Plugin rest = refl
other_letter Agent rest = refl

here_first : (side : Side) (act : Act) (r : List ℕ) (moves : List Move) (records : List (List ℕ))
    → IsRecordOf side act r
    → AllZip (IsRecordOf side) (acts_at side moves) (records_at side records)
    → AllZip (IsRecordOf side) (acts_at side (record { side = side; act = act } ∷ moves))
    (records_at side (r ∷ records))
unfolding acts_at
here_first side act r moves records says rest =
    let b = begins side act r says in
    let is : is_of (letter side) r ≡ true =
    ap (is_of (letter side)) b.1 ∙ same_letter side b.0 in
    rw (is, seen side act) (says, rest)
  where
    seen : (side : Side) (act : Act) → act_at side side act ≡ Some act
    seen Plugin act = refl
    seen Agent act = refl

there_first : (side : Side) (act : Act) (r : List ℕ) (moves : List Move) (records : List (List ℕ))
    → IsRecordOf (other side) act r
    → AllZip (IsRecordOf side) (acts_at side moves) (records_at side records)
    → AllZip (IsRecordOf side) (acts_at side (record { side = other side; act = act } ∷ moves))
    (records_at side (r ∷ records))
unfolding acts_at
there_first side act r moves records says rest =
    let b = begins (other side) act r says in
    let is : is_of (letter side) r ≡ false =
    ap (is_of (letter side)) b.1 ∙ other_letter side b.0 in
    rw (is, unseen side act) rest
  where
    unseen : (side : Side) (act : Act) → act_at side (other side) act ≡ None
    unseen Plugin act = refl
    unseen Agent act = refl

nothing_first : (side : Side) → AllZip (IsRecordOf side) (acts_at side []) (records_at side [])
unfolding acts_at
nothing_first side = tt

each_end : (moves : List Move) (records : List (List ℕ)) → AllZip SaysMove moves records
    → (side : Side)
    → AllZip (IsRecordOf side) (acts_at side moves) (records_at side records)
each_end [] [] says side = nothing_first side
each_end [] (r ∷ records) says side = absurd says
each_end (m ∷ moves) [] says side = absurd says
each_end (m ∷ moves) (r ∷ records) says side =
    let rest = each_end moves records says.1 side in
    ⊎_elim
    (λ (here : m.side ≡ side).
    subst
    (λ (z : Side). AllZip (IsRecordOf side)
    (acts_at side (record { side = z; act = m.act } ∷ moves)) (records_at side (r ∷ records)))
    (sym here)
    (here_first side m.act r moves records
    (subst (λ (z : Side). IsRecordOf z m.act r) here says.0.0) rest))
    (λ (there : m.side ≡ other side).
    subst
    (λ (z : Side). AllZip (IsRecordOf side)
    (acts_at side (record { side = z; act = m.act } ∷ moves)) (records_at side (r ∷ records)))
    (sym there)
    (there_first side m.act r moves records
    (subst (λ (z : Side). IsRecordOf z m.act r) there says.0.0) rest))
    (cases_side side m.side)

-- ---- the laws

first_of_both : (moves : List Move) (records : List (List ℕ)) → AllZip SaysMove moves records
    → AllZip (λ m r. IsRecordOf m.side m.act r) moves records
first_of_both [] [] says = tt
first_of_both [] (r ∷ records) says = absurd says
first_of_both (m ∷ moves) [] says = absurd says
first_of_both (m ∷ moves) (r ∷ records) says =
    (says.0.0, first_of_both moves records says.1)

second_of_both : (moves : List Move) (records : List (List ℕ)) → AllZip SaysMove moves records
    → All IsFormed records
second_of_both [] [] says = All-nil IsFormed
second_of_both [] (r ∷ records) says = absurd says
second_of_both (m ∷ moves) [] says = absurd says
second_of_both (m ∷ moves) (r ∷ records) says =
    All-cons IsFormed r records says.0.1 (second_of_both moves records says.1)

pub records_say_world : RecordsSayWorld
records_say_world w commands ranges =
    first_of_both (moves_of (world_of (run w commands))) (records_of w commands)
    (run_says w commands ranges)

pub records_are_formed : RecordsAreFormed
records_are_formed w commands ranges =
    second_of_both (moves_of (world_of (run w commands))) (records_of w commands)
    (run_says w commands ranges)

pub records_are_explained : RecordsAreExplained
records_are_explained w commands ranges =
    let world = world_of (run w commands) in
    let known = run_known w commands in (
      (
        world,
        record {
          legal = known.right.legal;
          honest = known.right.honest;
          remembered = known.remembered;
        },
        each_end (moves_of world) (records_of w commands) (run_says w commands ranges),
      ),
      refl,
    )

pub journal_is_accepted : JournalIsAccepted
journal_is_accepted w commands answer some ranges verdict =
    explained_is_yes w _ (records_of w commands) answer some verdict refl
    (records_are_formed w commands ranges) (records_are_explained w commands ranges).0

pub journal_laws : JournalLaws
journal_laws =
    record {
      said = records_say_world;
      formed = records_are_formed;
      explained = records_are_explained;
      accepted = journal_is_accepted;
    }
