-- What a post and a take report and leave, by what there is.
use Rattle.std.proofs.Common.{◌≡◌, ℕ, cond, Option, Some, None, refl, sym, ap, subst}
use Rattle.chan_values.specs.declared.side.Side.{Side}
use Rattle.channel_core.specs.declared.call.EndCall.{EndCall}
use Rattle.channel_core.specs.declared.message.Outgoing.{Outgoing}
use Rattle.channel_core.specs.Exchange.{incoming_of}
use Rattle.channel_core.specs.History.{emissions}
use Rattle.channel_core.specs.Wire.{encoding}
use Rattle.channel_core.specs.World.{history_of}
use Rattle.relay_core.specs.declared.event.Event.{Event}
use Rattle.relay_core.specs.Forwarding.{current}
use Rattle.relay_core.specs.Rooms.{is_conn}
use Rattle.lab_script.specs.declared.outcome.Outcome.{Outcome}
use Rattle.lab_script.specs.declared.outcome.RelayOutcome.{RelayOutcome}
use Rattle.lab_script.specs.declared.relay_command.RelayAction.{RelayAction}
use Rattle.lab_script.specs.declared.verb.Verb.{Verb}
use Rattle.lab_script.specs.declared.word.Which.{Which}
use Rattle.lab_run.specs.Steps.{called, emission_at}
use Rattle.lab_relay.specs.declared.relayed.Relayed.{Relayed}
use Rattle.lab_relay.specs.Held.{StandsFor}
use Rattle.lab_relay.specs.Scene.{Letter, Scene, after_event, came, lab, last_conn}
use Rattle.lab_relay.specs.Steps.{Turn, after_step, posted, taken, turn_of}

module _ (w : ℕ) (s : Scene) (line now : ℕ) (side : Side) (which : Which) (relayed : Relayed) where
  -- a line reports this, and what is kept stands for what it leaves
  abbrev pub Leaves : Outcome → Turn → Type 0
  Leaves outcome turn = (outcome ≡ turn.outcome) × StandsFor w turn.scene relayed

  abbrev emission : Option Outgoing
  emission = emission_at (emissions (history_of side s.world)) which

  pub posted-absent : StandsFor w s relayed → emission ≡ None
      → Leaves Outcome.Absent (turn_of w s now line side (RelayAction.Post which))
  posted-absent stands none =
      subst (λ o. Leaves Outcome.Absent (posted s now line side (last_conn (came s) side) o))
      (sym none) (refl, stands)

  pub posted-dropped : (out : Outgoing)
      → StandsFor w s relayed → emission ≡ Some out → last_conn (came s) side ≡ None
      → Leaves (Outcome.Relay RelayOutcome.Dropped)
      (turn_of w s now line side (RelayAction.Post which))
  posted-dropped out stands found none =
      subst
      (λ o. Leaves (Outcome.Relay RelayOutcome.Dropped)
      (posted s now line side (last_conn (came s) side) o))
      (sym found)
      (subst
      (λ conn. Leaves (Outcome.Relay RelayOutcome.Dropped) (posted s now line side conn (Some out)))
      (sym none) (refl, stands))

  pub posted-sent : (out : Outgoing) (conn : ℕ) (outcome : RelayOutcome)
      → emission ≡ Some out
      → last_conn (came s) side ≡ Some conn
      → outcome
      ≡ cond (is_conn conn (current (came s) lab side)) RelayOutcome.Sent RelayOutcome.Dropped
      → StandsFor w
      (after_event s now line (Event.Binary conn (encoding side out)) (λ to. incoming_of out)) relayed
      → Leaves (Outcome.Relay outcome) (turn_of w s now line side (RelayAction.Post which))
  posted-sent out conn outcome found last told stands =
      subst
      (λ o. Leaves (Outcome.Relay outcome)
      (posted s now line side (last_conn (came s) side) o))
      (sym found)
      (subst
      (λ c. Leaves (Outcome.Relay outcome) (posted s now line side c (Some out)))
      (sym last) (ap Outcome.Relay told, stands))

  pub taken-absent : StandsFor w s relayed → emission_at (s.inbox side) which ≡ None
      → Leaves Outcome.Absent (turn_of w s now line side (RelayAction.Take which))
  taken-absent stands none =
      subst (λ o. Leaves Outcome.Absent (taken w s now line side o)) (sym none) (refl, stands)

  pub taken-heard : (letter : Letter) (outcome : Outcome)
      → emission_at (s.inbox side) which ≡ Some letter
      → let step = called w s.world line Verb.Take side (EndCall.Heard now letter.says) in
      outcome ≡ step.outcome
      → StandsFor w (after_step s step).scene relayed
      → Leaves outcome (turn_of w s now line side (RelayAction.Take which))
  taken-heard letter outcome found told stands =
      subst (λ o. Leaves outcome (taken w s now line side o)) (sym found) (told, stands)
