-- What is kept after each verb of the relay.
use Rattle.std.proofs.Common.{◌≡◌, ℕ, ◌^◌, ◌<◌, Some, List, [], ◌∷◌, ◌++◌}
use Rattle.chan_values.specs.declared.side.Side.{Side}
use Rattle.channel_core.specs.declared.call.EndCall.{EndCall}
use Rattle.channel_core.specs.declared.message.Incoming.{Incoming}
use Rattle.channel_core.specs.declared.message.Outgoing.{Outgoing}
use Rattle.channel_core.specs.Exchange.{incoming_of}
use Rattle.channel_core.specs.History.{emissions}
use Rattle.channel_core.specs.Wire.{encoding}
use Rattle.channel_core.specs.World.{WasEmitted, history_of}
use Rattle.relay_core.specs.declared.event.Event.{Event}
use Rattle.relay_core.specs.Forwarding.{IsNew}
use Rattle.relay_core.specs.Kept.{Stands}
use Rattle.lab_script.specs.declared.command.Action.{Action}
use Rattle.lab_run.specs.Ends.{IsSendable}
use Rattle.lab_relay.specs.declared.hub.Hub.{Hub}
use Rattle.lab_relay.specs.declared.relayed.Relayed.{Relayed}
use Rattle.lab_relay.specs.Held.{Comes, IsHub, StandsFor}
use Rattle.lab_relay.specs.Scene.{Scene, after_event, came, lab, last_conn, next_conn}
use Rattle.lab_relay.specs.Steps.{dialed, finished, greeting_to, plain}
use Rattle.lab_relay.proofs.HubLemmas.{IsHub-quiet}
use Rattle.lab_relay.proofs.OwnedLemmas.{AreOwned-opened, AreOwned-quiet, IsNew-opened, IsQuiet, IsQuiet-binary, IsQuiet-end, IsQuiet-gone, opened}
use Rattle.lab_relay.proofs.PostLemmas.{AreTrue-posted}
use Rattle.lab_relay.proofs.SceneLemmas.{AreTrue, AreTrue-ended, AreTrue-gone, AreTrue-opened, StandsFor-event}

-- whatever came before, this event came
abbrev pub Coming : Event → ℕ → ℕ → Relayed → Relayed → Type 0
Coming event line now old new =
    (es : List Event)
    → Stands old.relay es
    → IsNew es event
    → IsHub (es ++ event ∷ []) old.hub
    → Comes es event line now old new

-- an end made a connection
pub StandsFor-dialed : (w : ℕ) (s : Scene) (line now : ℕ) (side : Side) (mid new : Relayed)
    (hub : Hub)
    → StandsFor w (plain w s now line side Action.Open).scene mid
    → IsHub (came s ++ opened (came s) side ∷ []) hub
    → Coming (opened (came s) side) line now (record mid { hub = hub }) new
    → StandsFor w (dialed w s now line side).scene new
StandsFor-dialed w s line now side mid new hub made noted coming =
    let es = came s in
    let t = (plain w s now line side Action.Open).scene in
    let comes = coming es made.relay (IsNew-opened es side made.owned) noted in
    StandsFor-event w t line now (opened es side) (greeting_to es (next_conn es)) mid new hub made
    noted (AreOwned-opened es side made.owned)
    (AreTrue-opened t line now side comes.small made.owned) comes

module _ (w : ℕ) (s : Scene) (line now : ℕ) (old new : Relayed) (stands : StandsFor w s old) where
  -- an event that lets no connection in
  StandsFor-quiet : (event : Event) (says : ℕ → Incoming)
      → IsQuiet event
      → IsNew (came s) event
      → (now < 2 ^ 64 → AreTrue s line now event says)
      → Coming event line now old new
      → StandsFor w (after_event s now line event says) new
  StandsFor-quiet event says quiet fresh letters coming =
      let noted = IsHub-quiet (came s) event old.hub quiet stands.hub in
      let comes = coming (came s) stands.relay fresh noted in
      StandsFor-event w s line now event says old new old.hub stands noted
      (AreOwned-quiet (came s) event quiet stands.owned) (letters comes.small) comes

  -- a connection was lost
  pub StandsFor-lost : (conn : ℕ)
      → Coming (Event.Gone conn) line now old new
      → StandsFor w (after_event s now line (Event.Gone conn) (λ to. Incoming.Pause)) new
  StandsFor-lost conn coming =
      StandsFor-quiet (Event.Gone conn) (λ to. Incoming.Pause) (IsQuiet-gone conn) tt
      (AreTrue-gone s line now conn) coming

  -- the session ended
  pub StandsFor-ended : Coming (Event.EndSession lab) line now old new
      → StandsFor w (finished s now line).scene new
  StandsFor-ended coming =
      StandsFor-quiet (Event.EndSession lab) (λ to. Incoming.Closing []) (IsQuiet-end lab) tt
      (AreTrue-ended s line now) coming

  -- an emission came
  pub StandsFor-posted : (side : Side) (conn : ℕ) (out : Outgoing)
      → last_conn (came s) side ≡ Some conn
      → IsSendable side out
      → ((moment : ℕ)
      → WasEmitted (emissions (history_of side s.world))
      (EndCall.Heard moment (incoming_of out)))
      → Coming (Event.Binary conn (encoding side out)) line now old new
      → StandsFor w
      (after_event s now line (Event.Binary conn (encoding side out)) (λ to. incoming_of out)) new
  StandsFor-posted side conn out last sendable was coming =
      let event = Event.Binary conn (encoding side out) in
      StandsFor-quiet event (λ to. incoming_of out) (IsQuiet-binary conn (encoding side out)) tt
      (λ small. AreTrue-posted s line now side conn out stands.owned last sendable was) coming
