-- Each event's answer, and what is kept after it, are those due.
use Rattle.std.proofs.Common.{◌≡◌, ℕ, Result, Ok, Err, List, ap, ◌∙◌}
use Rattle.std.specs.Result.{IfOk, OnErr, OnOk}
use Rattle.chan_values.specs.declared.side.Side.{Side}
use Rattle.relay_core.specs.declared.action.Action.{Action}
use Rattle.relay_core.specs.declared.event.Event.{Event}
use Rattle.relay_core.specs.Rooms.{dismissals, forwards, greetings, pauses}
use Rattle.relay_core.specs.Changes.{Ends, IsSame, Loses, Opens}
use Rattle.relay_core.specs.Kept.{Follows, Kept, peer_in, room_in}
use Rattle.relay_core.proofs.PeerLemmas.{peer-told}
use Rattle.relay_core.proofs.StandsLemmas.{none-opened, stands-binary, stands-ended, stands-gone, stands-opened, stands-same}

module _ {E : Type 0} (old new : Kept) (id : List ℕ) (now : ℕ) where
  pub follows-opened : (conn : ℕ) (session : List ℕ) (role : Side) (reply : List ℕ)
      (answer : Result (List Action) E)
      → IfOk answer (λ told. told
      ≡ greetings (room_in old.rooms session) session conn role reply id now)
      → OnOk answer (Opens conn session role old new)
      → OnErr answer (IsSame old new)
      → Follows old (Event.Opened conn session role reply) id now answer new
  follows-opened conn session role reply (Ok told) is changes same es stands = (
    λ fresh. (
      is ∙ ap (λ room. greetings room session conn role reply id now) (stands.rooms session),
      stands-opened old new es stands conn session role reply changes (none-opened es conn fresh),
    ),
    tt,
  )
  follows-opened conn session role reply (Err fault) is changes same es stands =
      (λ fresh. tt, stands-same old new es stands same)

  pub follows-ended : (session : List ℕ) (answer : Result (List Action) E)
      → IfOk answer (λ told. told ≡ dismissals (room_in old.rooms session) session id now)
      → OnOk answer (Ends session old new)
      → OnErr answer (IsSame old new)
      → Follows old (Event.EndSession session) id now answer new
  follows-ended session (Ok told) is changes same es stands = (
    λ fresh. (
      is ∙ ap (λ room. dismissals room session id now) (stands.rooms session),
      stands-ended old new es stands session changes,
    ),
    tt,
  )
  follows-ended session (Err fault) is changes same es stands =
      (λ fresh. tt, stands-same old new es stands same)

  pub follows-gone : (conn : ℕ) (answer : Result (List Action) E)
      → IfOk answer (λ told. told ≡ pauses (peer_in old conn) id now)
      → OnOk answer (Loses conn old new)
      → OnErr answer (IsSame old new)
      → Follows old (Event.Gone conn) id now answer new
  follows-gone conn (Ok told) is changes same es stands = (
    λ fresh. (
      is ∙ ap (λ peer. pauses peer id now) (peer-told old es stands conn),
      stands-gone old new es stands conn changes,
    ),
    tt,
  )
  follows-gone conn (Err fault) is changes same es stands =
      (λ fresh. tt, stands-same old new es stands same)

  pub follows-binary : (conn : ℕ) (bytes : List ℕ) (answer : Result (List Action) E)
      → IfOk answer (λ told. told ≡ forwards (peer_in old conn) bytes)
      → Follows old (Event.Binary conn bytes) id now answer old
  follows-binary conn bytes (Ok told) is es stands = (
    λ fresh. (
      is ∙ ap (λ peer. forwards peer bytes) (peer-told old es stands conn),
      stands-binary old old es stands conn bytes,
    ),
    tt,
  )
  follows-binary conn bytes (Err fault) is es stands = (λ fresh. tt, stands)
