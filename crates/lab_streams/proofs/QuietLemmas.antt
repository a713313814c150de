-- Calls of ends that put in no bytes of the streams.
use Rattle.std.proofs.Common.{◌≡◌, ◌≢◌, ℕ, ◌+◌, ◌*◌, zero, suc, Option, Some, None, List, [], ◌∷◌, ◌++◌, map, refl, ◌∙◌, ap, append-nil}
use Rattle.std.specs.Prelude.{nat_eq}
use Rattle.std.specs.List.{cons_option}
use Rattle.std.proofs.lemmas.Bool.{cond_both, eqb-true}
use Rattle.chan_values.specs.declared.item.Item.{Item}
use Rattle.chan_values.specs.declared.side.Side.{Side}
use Rattle.chan_values.specs.declared.side.Side.TheVariants.{Plugin, Agent}
use Rattle.chan_values.specs.Sides.{other}
use Rattle.channel_core.specs.declared.answer.Put.{Put}
use Rattle.channel_core.specs.declared.call.EndAnswer.{EndAnswer}
use Rattle.channel_core.specs.declared.call.EndCall.{EndCall}
use Rattle.channel_core.specs.declared.message.Outgoing.{Outgoing}
use Rattle.channel_core.specs.Call.{Entry}
use Rattle.channel_core.specs.History.{PutMessage, emissions, message_put, put_items}
use Rattle.channel_core.specs.World.{Event, history_of}
use Rattle.channel_core.proofs.HistoryLemmas.{put_items-push}
use Rattle.lab_script.specs.declared.command.Action.{Action}
use Rattle.lab_script.specs.declared.command.Command.{Command}
use Rattle.lab_script.specs.declared.word.Which.{Which}
use Rattle.lab_script.specs.StreamCommand.{IsBesideStreams}
use Rattle.lab_run.specs.Outcomes.{is_emission}
use Rattle.lab_run.specs.Steps.{Step, called, emission_at, events_of, heard_at, pass_steps, settle_steps, step_of, steps_of}
use Rattle.lab_script.specs.declared.verb.Verb.TheVariants as Verb
use Rattle.lab_streams.specs.Steps.{bytes_in, bytes_of}
use Rattle.lab_streams.proofs.EndLemmas.{bytes_of-append, bytes_of-none}

-- the call puts in no item that carries bytes of the streams
abbrev pub PutsNoBytes : EndCall → Type 0
PutsNoBytes (EndCall.Put item id now) = item.ptype ≢ 1
PutsNoBytes (EndCall.PutLast item id now) = item.ptype ≢ 1
PutsNoBytes call = Unit {0}

-- an item of another type carries none
no_bytes : (item : Item) → item.ptype ≢ 1 → bytes_of (item ∷ []) ≡ []
unfolding bytes_of
no_bytes item differs =
    append-nil (bytes_in item)
    ∙ cond_both (nat_eq item.ptype 1) item.payload [] (λ (l : List ℕ). l ≡ [])
    (λ same. absurd (differs (eqb-true item.ptype 1 same)))
    (λ _. refl)

-- the bytes of the streams that a call puts in
abbrev pub put_bytes : EndAnswer → EndCall → List ℕ
put_bytes answer call = bytes_of (map (λ m. m.item) (cons_option (message_put answer call) []))

pub nothing_put : (answer : EndAnswer) (call : EndCall)
    → message_put answer call ≡ None
    → put_bytes answer call ≡ []
nothing_put answer call none =
    ap
    (λ (o : Option PutMessage). bytes_of (map (λ m. m.item) (cons_option o [])))
    none
    ∙ bytes_of-none

-- they are none where the call puts in none
pub quiet_put : (answer : EndAnswer) (call : EndCall)
    → PutsNoBytes call
    → put_bytes answer call ≡ []
quiet_put (EndAnswer.Put (Put.Seq n)) (EndCall.Put item id now) quiet = no_bytes item quiet
quiet_put (EndAnswer.Put (Put.Seq n)) (EndCall.PutLast item id now) quiet = no_bytes item quiet
quiet_put answer call quiet = nothing_put answer call refl

-- what was put in after one call more
pub put_bytes-push : (h : List Entry) (e : Entry)
    → bytes_of (put_items (h ++ e ∷ [])) ≡ bytes_of (put_items h) ++ put_bytes e.answer e.call
put_bytes-push h e =
    ap bytes_of (put_items-push h e)
    ∙ bytes_of-append (put_items h)
    (map (λ m. m.item) (cons_option (message_put e.answer e.call) []))

-- ---- steps

-- the call of a step, if it makes one, puts in none
abbrev pub IsQuiet : Option Event → Type 0
IsQuiet None = Unit {0}
IsQuiet (Some x) = PutsNoBytes x.entry.call

-- so do all these steps
abbrev pub AreQuiet : List Step → Type 0
AreQuiet [] = Unit {0}
AreQuiet (s ∷ steps) = IsQuiet s.event × AreQuiet steps

AreQuiet-append : (a b : List Step) → AreQuiet a → AreQuiet b → AreQuiet (a ++ b)
AreQuiet-append [] b first second = second
AreQuiet-append (s ∷ a) b first second = (first.0, AreQuiet-append a b first.1 second)

quiet_heard : (w : ℕ) (world : List Event) (now line : ℕ) (side : Side) (o : Option Outgoing)
    → IsQuiet (heard_at w world now line side o).event
quiet_heard w world now line side None = tt
quiet_heard w world now line side (Some out) = tt

-- a line that is beside the streams
quiet_step : (w : ℕ) (world : List Event) (now line : ℕ) (side : Side) (action : Action)
    → IsBesideStreams (Command.On side action)
    → IsQuiet (step_of w world now line side action).event
quiet_step w world now line side (Action.Put item) beside = beside
quiet_step w world now line side (Action.PutLast item) beside = beside
quiet_step w world now line side (Action.Hear which) beside =
    quiet_heard w world now line side
    (emission_at (emissions (history_of (other side) world)) which)
quiet_step w world now line side _ beside = tt

quiet_pass : (n w : ℕ) (world : List Event) (now line : ℕ) (side : Side)
    → AreQuiet (pass_steps n w world now line side)
unfolding pass_steps
quiet_pass zero w world now line side = tt
quiet_pass (suc n) w world now line side =
    let pulled = called w world line Verb.Pull side (EndCall.Pull now) in
    let one = world ++ events_of (pulled ∷ []) in
    let sent = emissions (history_of side one) in
    let last = emission_at sent Which.Last in
    let heard = heard_at w one now line (other side) last in
    let two = one ++ events_of (heard ∷ []) in (
      tt,
      cond_both (is_emission pulled.outcome) (heard ∷ pass_steps n w two now line side) []
          AreQuiet
          (λ _. (quiet_heard w one now line (other side) last, quiet_pass n w two now line side))
          (λ _. tt),
    )

quiet_settle : (w : ℕ) (world : List Event) (now line : ℕ)
    → AreQuiet (settle_steps w world now line)
quiet_settle w world now line =
    let plugin = called w world line Verb.Open Plugin (EndCall.Opened now) in
    let one = world ++ events_of (plugin ∷ []) in
    let agent = called w one line Verb.Open Agent (EndCall.Opened now) in
    let two = one ++ events_of (agent ∷ []) in
    let to_agent = pass_steps (2 * w + 1) w two now line Plugin in
    let three = two ++ events_of to_agent in
    let to_plugin = pass_steps (2 * w + 1) w three now line Agent in (
      tt,
      (
        tt,
        AreQuiet-append to_agent to_plugin (quiet_pass (2 * w + 1) w two now line Plugin)
            (quiet_pass (2 * w + 1) w three now line Agent),
      ),
    )

pub quiet_steps : (w : ℕ) (world : List Event) (now line : ℕ) (command : Command)
    → IsBesideStreams command
    → AreQuiet (steps_of w world now line command)
quiet_steps w world now line (Command.At moment) beside = tt
quiet_steps w world now line Command.Settle beside = quiet_settle w world now line
quiet_steps w world now line (Command.On side action) beside =
    (quiet_step w world now line side action beside, tt)
