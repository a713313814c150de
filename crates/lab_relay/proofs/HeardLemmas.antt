-- What a take leaves where there is a message.
use Rattle.std.proofs.Common.{◌≡◌, ℕ, Result, IfOk, Some, List, length, sym, subst}
use Rattle.std.proofs.lemmas.Result.{IfOk-weaker}
use Rattle.chan_values.specs.declared.no_memory.NoMemory.{NoMemory}
use Rattle.chan_values.specs.declared.side.Side.{Side}
use Rattle.channel_core.specs.declared.call.EndCall.{EndCall}
use Rattle.channel_core.specs.declared.message.Incoming.{Incoming}
use Rattle.channel_core.specs.History.{emissions}
use Rattle.channel_core.specs.Stands.{EndState}
use Rattle.channel_core.specs.World.{history_of}
use Rattle.lab_script.specs.declared.outcome.Outcome.{Outcome}
use Rattle.lab_script.specs.declared.relay_command.RelayAction.{RelayAction}
use Rattle.lab_script.specs.declared.verb.Verb.{Verb}
use Rattle.lab_script.specs.declared.word.Which.{Which}
use Rattle.lab_run.specs.Ends.{IsCalled, endpoint_of}
use Rattle.lab_run.specs.Steps.{called, emission_at}
use Rattle.lab_run.proofs.EmissionLemmas.{All-emission}
use Rattle.lab_relay.specs.declared.relayed.Relayed.{Relayed}
use Rattle.lab_relay.specs.Held.{IsHeardAs, IsHonestLetter, StandsFor, bytes_for}
use Rattle.lab_relay.specs.Scene.{Letter, Scene}
use Rattle.lab_relay.specs.Steps.{turn_of}
use Rattle.lab_relay.proofs.InboxLemmas.{letter-found}
use Rattle.lab_relay.proofs.SceneLemmas.{StandsFor-step}
use Rattle.lab_relay.proofs.TakeLemmas.{IsPair-heard, with_end}
use Rattle.lab_relay.proofs.VerbLemmas.{Leaves, taken-heard}

pub Leaves-taken : (w : ℕ) (s : Scene) (line now : ℕ) (side : Side) (which : Which)
    (old : Relayed)
    (end : EndState) (r : Result Outcome NoMemory) (bytes : List ℕ)
    → StandsFor w s old
    → Some bytes ≡ emission_at (bytes_for side old.inboxes) which
    → ((k : ℕ) (says : Incoming)
    → IsHeardAs side bytes says
    → IfOk r (IsCalled side k (EndCall.Heard now says) (endpoint_of side old.pair).end end))
    → IfOk r
    (λ outcome. Leaves w s line now side which
    (record old { pair = with_end side end old.pair }) outcome
    (turn_of w s now line side (RelayAction.Take which)))
Leaves-taken w s line now side which old end r bytes stands found hears =
    let kept =
    letter-found (bytes_for side old.inboxes) (s.inbox side) which (stands.inboxes side) bytes found
    in
    let letter = kept.letter in
    let heard : IsHeardAs side letter.bytes letter.says =
    All-emission (λ (l : Letter). IsHeardAs side l.bytes l.says) (s.inbox side) which letter
    (stands.heard side) kept.found in
    let honest =
    All-emission (IsHonestLetter s.world side) (s.inbox side) which letter (stands.honest side)
    kept.found in
    let step = called w s.world line Verb.Take side (EndCall.Heard now letter.says) in
    let new = record old { pair = with_end side end old.pair } in
    IfOk-weaker r _ _
    (λ outcome c.
    let done =
    IsPair-heard w s.world line now letter.says old.pair stands.pair side end outcome (honest now)
    c in
    taken-heard w s line now side which new letter outcome kept.found done.0
    (StandsFor-step w s step old (with_end side end old.pair) stands done.1))
    (hears (length (emissions (history_of side s.world))) letter.says
    (subst (λ b. IsHeardAs side b letter.says) (sym kept.same) heard))
