-- The records of the lines of a script, and of those that a settle stands for.
use Rattle.std.proofs.Common.{◌≡◌, ℕ, ◌+◌, ◌^◌, ◌<◌, zero, suc, Option, Some, None, List, [], ◌∷◌, ◌++◌, length, refl, sym, ap, subst, ◌∙◌, arith}
use Rattle.std.specs.List.{All, AllZip, cons_option, filter_map}
use Rattle.std.specs.Option.{option_and_then}
use Rattle.std.proofs.lemmas.List.{get_or_append_left, length-append}
use Rattle.std.proofs.lemmas.List.Elements.{filter_map-append}
use Rattle.chan_values.specs.declared.side.Side.{Side}
use Rattle.chan_values.specs.declared.side.Side.TheVariants.{Plugin, Agent}
use Rattle.channel_core.specs.declared.message.Outgoing.{Outgoing}
use Rattle.channel_core.specs.Call.{Entry}
use Rattle.channel_core.specs.History.{emissions, message_emitted}
use Rattle.channel_core.specs.World.{Event, entry_at, history_of}
use Rattle.session_audit.specs.Moves.{Move, moves_of}
use Rattle.lab_script.specs.declared.command.Action.{Action}
use Rattle.lab_script.specs.declared.command.Command.{Command}
use Rattle.lab_script.specs.declared.word.Which.{Which}
use Rattle.lab_run.specs.Ends.{AllSendable, IsSendable}
use Rattle.lab_run.specs.Steps.{Step, events_of, pass_lines, settle_lines, settle_steps, step_of, steps_at, steps_of}
use Rattle.lab_run.proofs.PassLemmas.{world-then}
use Rattle.lab_run.proofs.SettleLemmas.{settle_has_lines}
use Rattle.lab_journal.specs.Records.{step_record, step_records, which_in, which_of}
use Rattle.lab_journal.proofs.StepLemmas.{SaysMove, SaysSeen, move_at}
use Rattle.lab_journal.proofs.WorldLemmas.{IsKnown, known_same, known_step, says_step}

-- ---- what was emitted before

emissions-append : (h l : List Entry) → emissions (h ++ l) ≡ emissions h ++ emissions l
unfolding emissions
emissions-append h l = filter_map-append (λ (e : Entry). message_emitted e.answer) h l

history_of-append : (side : Side) (a b : List Event)
    → history_of side (a ++ b) ≡ history_of side a ++ history_of side b
unfolding history_of
history_of-append side a b =
    filter_map-append (λ (x : Event). entry_at side x.side x.entry) a b

All-front : {X : Type 0} (P : X → Type 0) (xs ys : List X) → All P (xs ++ ys) → All P xs
All-front P xs ys all =
    λ k d within. subst P (get_or_append_left xs ys d k within)
    (all k d (omega (arith, within, length-append xs ys)))

-- where all that was emitted has an encoding, so has what was emitted before
pub AllSendable-front : (world xs : List Event) → AllSendable (world ++ xs) → AllSendable world
AllSendable-front world xs all side =
    let split : emissions (history_of side (world ++ xs))
    ≡ emissions (history_of side world) ++ emissions (history_of side xs)
    = ap emissions (history_of-append side world xs)
    ∙ emissions-append (history_of side world) (history_of side xs) in
    All-front (IsSendable side) (emissions (history_of side world)) (emissions (history_of side xs))
    (subst (All (IsSendable side)) split (all side))

-- ---- moves and records

pub moves_of-cons : (o : Option Event) (xs : List Event)
    → moves_of (cons_option o xs) ≡ cons_option (option_and_then move_at o) (moves_of xs)
unfolding moves_of
moves_of-cons None xs = refl
moves_of-cons (Some x) xs = refl

pub moves_of-none : moves_of [] ≡ []
unfolding moves_of
moves_of-none = refl

pub moves_of-append : (a b : List Event) → moves_of (a ++ b) ≡ moves_of a ++ moves_of b
unfolding moves_of
moves_of-append a b = filter_map-append move_at a b

says_cons : (o : Option Move) (r : Option (List ℕ)) (moves : List Move) (records : List (List ℕ))
    → SaysSeen o r
    → AllZip SaysMove moves records
    → AllZip SaysMove (cons_option o moves) (cons_option r records)
says_cons None None moves records first rest = rest
says_cons None (Some r) moves records first rest = absurd first
says_cons (Some m) None moves records first rest = absurd first
says_cons (Some m) (Some r) moves records first rest = (first, rest)

-- ---- lines of one end each

-- each of these lines is of one end, and means this emission if it means one
AreLines : Which → List Command → Type 0
AreLines which [] = Unit {0}
AreLines which (Command.On side action ∷ commands) =
    (which_of action ≡ which) × AreLines which commands
AreLines which (_ ∷ commands) = ⊥

AreLines-append : (which : Which) (a b : List Command)
    → AreLines which a → AreLines which b → AreLines which (a ++ b)
unfolding AreLines
AreLines-append which [] b first second = second
AreLines-append which (Command.On side action ∷ a) b first second =
    (first.0, AreLines-append which a b first.1 second)
AreLines-append which (Command.At moment ∷ a) b first second = absurd first
AreLines-append which (Command.Settle ∷ a) b first second = absurd first

AreLines-pass : (side : Side) (n : ℕ) → AreLines Which.Last (pass_lines side n)
unfolding AreLines
AreLines-pass side zero = (refl, tt)
AreLines-pass side (suc n) = (refl, (refl, AreLines-pass side n))

lines_known : (w : ℕ) (which : Which) (world : List Event) (now line : ℕ) (commands : List Command)
    → IsKnown w world
    → AreLines which commands
    → IsKnown w (world ++ events_of (steps_at w world now line commands))
unfolding AreLines
lines_known w which world now line [] known are = known_same w world known
lines_known w which world now line (Command.On side action ∷ commands) known are =
    let s = step_of w world now line side action in
    let one = world ++ events_of (s ∷ []) in
    subst (IsKnown w) (world-then world (s ∷ []) (steps_at w one now line commands))
    (lines_known w which one now line commands (known_step w world now line side action known) are.1)
lines_known w which world now line (Command.At moment ∷ commands) known are = absurd are
lines_known w which world now line (Command.Settle ∷ commands) known are = absurd are

lines_say : (w : ℕ) (which : Which) (world : List Event) (now line : ℕ) (commands : List Command)
    → IsKnown w world
    → now < 2 ^ 64
    → AreLines which commands
    → let steps = steps_at w world now line commands in
    AllSendable (world ++ events_of steps)
    → AllZip SaysMove (moves_of (events_of steps)) (step_records which world steps)
unfolding AreLines
lines_say w which world now line [] known small are sendable = rw moves_of-none tt
lines_say w which world now line (Command.On side action ∷ commands) known small are sendable =
    let s = step_of w world now line side action in
    let one = world ++ events_of (s ∷ []) in
    let rest = steps_at w one now line commands in
    let all : AllSendable (one ++ events_of rest) =
    subst AllSendable (sym (world-then world (s ∷ []) rest)) sendable in
    let after = AllSendable-front one (events_of rest) all in
    let before = AllSendable-front world (events_of (s ∷ [])) after in
    let first : SaysSeen (option_and_then move_at s.event) (step_record which world s) =
    subst
    (λ (k : Which). SaysSeen (option_and_then move_at s.event) (step_record k world s)) are.0
    (says_step w world now line side action known small before after) in
    let behind =
    lines_say w which one now line commands (known_step w world now line side action known) small
    are.1 all in
    subst
    (λ (moves : List Move). AllZip SaysMove moves
    (cons_option (step_record which world s) (step_records which one rest)))
    (sym (moves_of-cons s.event (events_of rest)))
    (says_cons (option_and_then move_at s.event) (step_record which world s)
    (moves_of (events_of rest)) (step_records which one rest) first behind)
lines_say w which world now line (Command.At moment ∷ commands) known small are sendable =
    absurd are
lines_say w which world now line (Command.Settle ∷ commands) known small are sendable = absurd are

-- ---- a line

AreLines-settle : (n m : ℕ) → AreLines Which.Last (settle_lines n m)
unfolding AreLines
AreLines-settle n m = (
  refl,
  (
    refl,
    AreLines-append Which.Last (pass_lines Plugin n) (pass_lines Agent m)
        (AreLines-pass Plugin n) (AreLines-pass Agent m),
  ),
)

-- what is known after a line
pub steps_known : (w : ℕ) (world : List Event) (now line : ℕ) (command : Command)
    → IsKnown w world
    → IsKnown w (world ++ events_of (steps_of w world now line command))
steps_known w world now line (Command.At moment) known = known_same w world known
steps_known w world now line Command.Settle known =
    let has = settle_has_lines w world now line known.right in
    subst (λ (steps : List Step). IsKnown w (world ++ events_of steps)) (sym has.4)
    (lines_known w Which.Last world now line (settle_lines has.0 has.1) known
    (AreLines-settle has.0 has.1))
steps_known w world now line (Command.On side action) known =
    known_step w world now line side action known

-- its records say what is seen
pub steps_say : (w : ℕ) (world : List Event) (now line : ℕ) (command : Command)
    → IsKnown w world
    → now < 2 ^ 64
    → let steps = steps_of w world now line command in
    AllSendable (world ++ events_of steps)
    → AllZip SaysMove (moves_of (events_of steps)) (step_records (which_in command) world steps)
unfolding AreLines
steps_say w world now line (Command.At moment) known small sendable = rw moves_of-none tt
steps_say w world now line Command.Settle known small sendable =
    let has = settle_has_lines w world now line known.right in
    let lines = settle_lines has.0 has.1 in
    let P : List Step → Type 0 =
    λ steps. AllSendable (world ++ events_of steps)
    → AllZip SaysMove (moves_of (events_of steps)) (step_records Which.Last world steps) in
    subst P (sym has.4)
    (λ all. lines_say w Which.Last world now line lines known small
    (AreLines-settle has.0 has.1) all)
    sendable
steps_say w world now line (Command.On side action) known small sendable =
    lines_say w (which_of action) world now line (Command.On side action ∷ []) known small
    (refl, tt) sendable
