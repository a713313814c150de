-- The calls that a script makes fit, so that all that its ends emit has an encoding.
use Rattle.std.proofs.Common.{◌≡◌, ℕ, ◌+◌, ◌^◌, ◌<◌, zero, suc, Option, Some, None, List, [], ◌∷◌, ◌++◌, length, inl, inr, ⊎_elim, refl, sym, ap, subst, ◌∙◌, append_assoc, append-nil, arith}
use Rattle.std.specs.List.{All, fold}
use Rattle.std.proofs.lemmas.List.Elements.{All-head, All-nil, All-push, All-tail}
use Rattle.chan_values.specs.declared.side.Side.{Side}
use Rattle.chan_values.specs.declared.side.Side.TheVariants.{Plugin, Agent}
use Rattle.chan_values.specs.Sides.{other}
use Rattle.channel_core.specs.declared.call.EndCall.{EndCall}
use Rattle.channel_core.specs.declared.message.Incoming.TheVariants as Incoming
use Rattle.channel_core.specs.declared.message.Outgoing.{Outgoing}
use Rattle.channel_core.specs.Call.{Entry}
use Rattle.channel_core.specs.Condition.{IsCallable}
use Rattle.channel_core.specs.Exchange.{incoming_of}
use Rattle.channel_core.specs.History.{emissions}
use Rattle.channel_core.specs.World.{Event, history_of}
use Rattle.channel_core.proofs.WorldLemmas.{IsRight, cases_side, event_of, history_of-here, history_of-there}
use Rattle.lab_script.specs.declared.command.Action.{Action}
use Rattle.lab_script.specs.declared.command.Command.{Command}
use Rattle.lab_script.specs.declared.word.Which.{Which}
use Rattle.lab_script.specs.Command.{IsAction, IsCommand}
use Rattle.lab_run.specs.Ends.{AllSendable, IsSendable}
use Rattle.lab_run.specs.Laws.{EveryEmissionIsSendable}
use Rattle.lab_run.specs.Run.{Progress, moment_after, progress, progress_after, run}
use Rattle.lab_run.specs.Steps.{Step, called, emission_at, events_of, heard_at, id_of, pass_lines, settle_lines, settle_steps, start, step_of, steps_at, steps_of, world_of}
use Rattle.lab_run.proofs.EmissionLemmas.{All-emission}
use Rattle.lab_run.proofs.PassLemmas.{world-then}
use Rattle.lab_run.proofs.RightLemmas.{IsRight-start, IsRight-step, IsRight-steps}
use Rattle.lab_run.proofs.RunLemmas.{world_of-append}
use Rattle.lab_run.proofs.SettleLemmas.{settle_has_lines}
use Rattle.lab_run.proofs.TypedLemmas.{All-sendable, IsFit, IsTyped}

-- the world is legal and honest, and the calls in it fit
record IsGood (w : ℕ) (world : List Event) : Type 0 where
  right : IsRight w world
  fit : (side : Side) → All IsFit (history_of side world)

-- what was emitted in it has an encoding
AllSendable-good : (w : ℕ) (world : List Event) → IsGood w world → AllSendable world
AllSendable-good w world good side =
    All-sendable w side (history_of side world) (good.right.legal side) (good.fit side)

-- one call more that fits
fit-push : (world : List Event) (x : Event)
    → ((side : Side) → All IsFit (history_of side world))
    → IsFit x.entry
    → (side : Side)
    → All IsFit (history_of side (world ++ x ∷ []))
fit-push world x before fits side =
    ⊎_elim
    (λ (here : x.side ≡ side).
    subst (All IsFit) (sym (history_of-here side world x here))
    (All-push IsFit (history_of side world) x.entry (before side) fits))
    (λ (there : x.side ≡ other side).
    subst (All IsFit) (sym (history_of-there side world x there)) (before side))
    (cases_side side x.side)

-- what is heard of an emission that has an encoding fits
fits-heard : (side : Side) (now : ℕ) (out : Outgoing)
    → IsSendable side out
    → IsCallable (EndCall.Heard now (incoming_of out)) × IsTyped
    (EndCall.Heard now (incoming_of out))
fits-heard side now (Outgoing.Stream m) sendable = (sendable.0.0, id side sendable)
  where
    id : (side : Side) → IsSendable side (Outgoing.Stream m) → length m.id ≡ 16
    id Plugin sendable = sendable.1.id
    id Agent sendable = sendable.1.id
fits-heard side now (Outgoing.Ack n id date) sendable = (sendable.0.0, tt)

-- ---- the step of an end

-- the step of a hearing
fit-hear : (w : ℕ) (world : List Event) (now line : ℕ) (side : Side) (o : Option Outgoing)
    → ((z : Side) → All IsFit (history_of z world))
    → ((out : Outgoing) → o ≡ Some out → IsSendable (other side) out)
    → (z : Side)
    → All IsFit (history_of z (world ++ events_of (heard_at w world now line side o ∷ [])))
fit-hear w world now line side None before sendable = rw append-nil before
fit-hear w world now line side (Some out) before sendable =
    let call : EndCall = EndCall.Heard now (incoming_of out) in
    fit-push world (event_of w world side call) before
    (fits-heard (other side) now out (sendable out refl))

fit-step : (w : ℕ) (world : List Event) (now line : ℕ) (side : Side) (action : Action)
    → IsGood w world
    → now < 2 ^ 64
    → IsAction action
    → (z : Side)
    → All IsFit (history_of z (world ++ events_of (step_of w world now line side action ∷ [])))
fit-step w world now line side (Action.Put item) good small ranges =
    fit-push world (event_of w world side (EndCall.Put item (id_of line) now)) good.fit
    (ranges.1.1, (small, refl, ranges.0))
fit-step w world now line side (Action.PutLast item) good small ranges =
    fit-push world (event_of w world side (EndCall.PutLast item (id_of line) now)) good.fit
    (ranges.1.1, (small, refl, ranges.0))
fit-step w world now line side Action.Pull good small ranges =
    fit-push world (event_of w world side (EndCall.Pull now)) good.fit (tt, small)
fit-step w world now line side Action.Tick good small ranges =
    fit-push world (event_of w world side (EndCall.Tick now)) good.fit (tt, tt)
fit-step w world now line side Action.Close good small ranges =
    fit-push world (event_of w world side EndCall.Close) good.fit (tt, tt)
fit-step w world now line side (Action.Hear which) good small ranges =
    let sent = emissions (history_of (other side) world) in
    fit-hear w world now line side (emission_at sent which) good.fit
    (λ out found.
    All-emission (IsSendable (other side)) sent which out
    (AllSendable-good w world good (other side)) found)
fit-step w world now line side (Action.Hurt which place) good small ranges =
    rw append-nil good.fit
fit-step w world now line side Action.Lost good small ranges =
    fit-push world (event_of w world side EndCall.Lost) good.fit (tt, tt)
fit-step w world now line side Action.Open good small ranges =
    fit-push world (event_of w world side (EndCall.Opened now)) good.fit (tt, tt)
fit-step w world now line side Action.Pause good small ranges =
    fit-push world (event_of w world side (EndCall.Heard now Incoming.Pause)) good.fit (tt, tt)
fit-step w world now line side Action.Start good small ranges =
    fit-push world (event_of w world side (EndCall.Heard now Incoming.Start)) good.fit (tt, tt)
fit-step w world now line side Action.End good small ranges =
    fit-push world (event_of w world side (EndCall.Heard now (Incoming.Closing []))) good.fit
    (tt, tt)

IsGood-step : (w : ℕ) (world : List Event) (now line : ℕ) (side : Side) (action : Action)
    → IsGood w world
    → now < 2 ^ 64
    → IsAction action
    → IsGood w (world ++ events_of (step_of w world now line side action ∷ []))
IsGood-step w world now line side action good small ranges =
    record {
      right = IsRight-step w world now line side action good.right;
      fit = fit-step w world now line side action good small ranges;
    }

-- ---- lines

-- lines of one end each, with their numbers in range
AreActions : List Command → Type 0
AreActions [] = Unit {0}
AreActions (Command.On side action ∷ commands) = IsAction action × AreActions commands
AreActions (_ ∷ commands) = ⊥

AreActions-append : (a b : List Command) → AreActions a → AreActions b → AreActions (a ++ b)
unfolding AreActions
AreActions-append [] b first second = second
AreActions-append (Command.On side action ∷ a) b first second =
    (first.0, AreActions-append a b first.1 second)
AreActions-append (Command.At moment ∷ a) b first second = absurd first
AreActions-append (Command.Settle ∷ a) b first second = absurd first

AreActions-pass : (side : Side) (n : ℕ) → AreActions (pass_lines side n)
unfolding AreActions
AreActions-pass side zero = (tt, tt)
AreActions-pass side (suc n) = (tt, (tt, AreActions-pass side n))

IsGood-lines : (w : ℕ) (world : List Event) (now line : ℕ) (commands : List Command)
    → IsGood w world
    → now < 2 ^ 64
    → AreActions commands
    → IsGood w (world ++ events_of (steps_at w world now line commands))
unfolding AreActions
IsGood-lines w world now line [] good small ranges = rw append-nil good
IsGood-lines w world now line (Command.On side action ∷ commands) good small ranges =
    let steps = step_of w world now line side action ∷ [] in
    let one = world ++ events_of steps in
    subst (IsGood w) (world-then world steps (steps_at w one now line commands))
    (IsGood-lines w one now line commands
    (IsGood-step w world now line side action good small ranges.0) small ranges.1)
IsGood-lines w world now line (Command.At moment ∷ commands) good small ranges = absurd ranges
IsGood-lines w world now line (Command.Settle ∷ commands) good small ranges = absurd ranges

-- a settle has the steps of such lines
IsGood-settle : (w : ℕ) (world : List Event) (now line : ℕ)
    → IsGood w world
    → now < 2 ^ 64
    → IsGood w (world ++ events_of (settle_steps w world now line))
unfolding AreActions
IsGood-settle w world now line good small =
    let has = settle_has_lines w world now line good.right in
    let lines = settle_lines has.0 has.1 in
    let actions : AreActions lines = (
      tt,
      (
        tt,
        AreActions-append (pass_lines Plugin has.0) (pass_lines Agent has.1)
            (AreActions-pass Plugin has.0) (AreActions-pass Agent has.1),
      ),
    ) in
    subst (λ (steps : List Step). IsGood w (world ++ events_of steps)) (sym has.4)
    (IsGood-lines w world now line lines good small actions)

IsGood-steps : (w : ℕ) (world : List Event) (now line : ℕ) (command : Command)
    → IsGood w world
    → now < 2 ^ 64
    → IsCommand command
    → IsGood w (world ++ events_of (steps_of w world now line command))
IsGood-steps w world now line (Command.At moment) good small ranges = rw append-nil good
IsGood-steps w world now line Command.Settle good small ranges =
    IsGood-settle w world now line good small
IsGood-steps w world now line (Command.On side action) good small ranges =
    IsGood-step w world now line side action good small ranges

-- ---- scripts

-- before the first line
IsGood-start : (w : ℕ) → IsGood w start
unfolding history_of
IsGood-start w =
    record {
      right = IsRight-start w;
      fit = λ side. at side;
    }
  where
    at : (side : Side) → All IsFit (history_of side start)
    at Plugin = All-push IsFit [] _ (All-nil IsFit) (tt, tt)
    at Agent = All-push IsFit [] _ (All-nil IsFit) (tt, tt)

-- the moment stays in range
moment_after-small : (now : ℕ) (command : Command)
    → now < 2 ^ 64 → IsCommand command → moment_after now command < 2 ^ 64
moment_after-small now (Command.At moment) small ranges = ranges
moment_after-small now Command.Settle small ranges = small
moment_after-small now (Command.On side action) small ranges = small

-- line after line
goes : (w : ℕ) (p : Progress) (commands : List Command)
    → IsGood w (world_of p.steps)
    → p.now < 2 ^ 64
    → All IsCommand commands
    → IsGood w (world_of (fold (progress_after w) p commands).steps)
goes w p [] good small ranges = good
goes w p (c ∷ cs) good small ranges =
    let first = All-head IsCommand c cs ranges in
    let steps = steps_of w (world_of p.steps) p.now p.line c in
    goes w (progress_after w p c) cs
    (subst (IsGood w) (sym (world_of-append p.steps steps))
    (IsGood-steps w (world_of p.steps) p.now p.line c good small first))
    (moment_after-small p.now c small first)
    (All-tail IsCommand c cs ranges)

pub every_emission_is_sendable : EveryEmissionIsSendable
unfolding progress
every_emission_is_sendable w commands ranges =
    AllSendable-good w (world_of (run w commands))
    (goes w (record { steps = []; now = 0; line = 1 }) commands
    (rw append-nil (IsGood-start w)) (omega arith) ranges)
