-- After each line the inboxes have what the relay sent, and what was heard is what they say.
use Rattle.std.proofs.Common.{◌≡◌, ℕ, ◌^◌, ◌<◌, nat_eq, Option, Some, None, List, [], ◌∷◌, refl, arith}
use Rattle.std.specs.List.{All, Contains, fold}
use Rattle.std.proofs.lemmas.List.Elements.{All-head, All-tail, All-contains_itself, All-weaker}
use Rattle.chan_values.specs.declared.side.Side.{Side}
use Rattle.channel_core.specs.declared.call.EndCall.{EndCall}
use Rattle.channel_core.specs.declared.message.Incoming.{Incoming}
use Rattle.channel_core.specs.declared.message.Outgoing.{Outgoing}
use Rattle.channel_core.specs.Exchange.{incoming_of}
use Rattle.channel_core.specs.History.{emissions}
use Rattle.channel_core.specs.Wire.{encoding}
use Rattle.channel_core.specs.World.{history_of}
use Rattle.relay_core.specs.declared.event.Event.{Event}
use Rattle.relay_core.specs.Forwarding.{is_ended}
use Rattle.lab_script.specs.declared.command.Action.{Action}
use Rattle.lab_script.specs.declared.relay_command.RelayAction.{RelayAction}
use Rattle.lab_script.specs.declared.relay_command.RelayCommand.{RelayCommand}
use Rattle.lab_script.specs.declared.verb.Verb.{Verb}
use Rattle.lab_script.specs.declared.word.Which.{Which}
use Rattle.lab_script.specs.RelayCommand.{IsRelayAction, IsRelayCommand}
use Rattle.lab_run.specs.Ends.{IsSendable}
use Rattle.lab_run.specs.Steps.{emission_at, id_of}
use Rattle.lab_run.proofs.EmissionLemmas.{All-emission}
use Rattle.lab_relay.specs.Laws.{EveryInboxIsTrue}
use Rattle.lab_relay.specs.Run.{Progress, beginning, moment_after, progress, progress_after, scene_after}
use Rattle.lab_relay.specs.Scene.{Letter, Scene, after_event, came, lab, last_conn, next_conn}
use Rattle.lab_relay.specs.Steps.{after_loss, greeting_to, plain, posted, taken, turn_of}
use Rattle.lab_relay.proofs.EntryLemmas.{IsTrue, IsTrueEntry, contains-map, emissions-fit, emissions-have, true-called, true-event, true-start}
use Rattle.lab_relay.proofs.GreetingLemmas.{sent-ended, sent-gone, sent-opened}
use Rattle.lab_relay.proofs.GrowthLemmas.{scene-front}
use Rattle.lab_relay.proofs.IdLemmas.{OutHas}
use Rattle.lab_relay.proofs.LineLemmas.{IsSound, sound-after, sound-dialed, sound-lost, sound-plain, sound-posted, sound-taken}
use Rattle.lab_relay.proofs.OwnedLemmas.{opened}
use Rattle.lab_relay.proofs.SaidLemmas.{AreBytes-id_of, IsTrueLetter, fits-greeted, true-own, true-posted}
use Rattle.lab_relay.proofs.SentLemmas.{placed-ended, placed-gone, placed-opened, placed-posted}

-- ---- lines

module _ (w : ℕ) (s : Scene) (now line : ℕ) (small : now < 2 ^ 64) (t : IsTrue w s) where
  -- what a call of an end alone asks for
  abbrev IsAlone : Action → Type 0
  IsAlone (Action.Put item) = IsRelayAction (RelayAction.Put item)
  IsAlone (Action.PutLast item) = IsRelayAction (RelayAction.PutLast item)
  IsAlone Action.Pull = Unit {0}
  IsAlone Action.Tick = Unit {0}
  IsAlone Action.Close = Unit {0}
  IsAlone Action.Lost = Unit {0}
  IsAlone Action.Open = Unit {0}
  IsAlone action = ⊥

  true-plain : (side : Side) (action : Action) → IsAlone action
      → IsTrue w (plain w s now line side action).scene
  true-plain side (Action.Put item) ranges =
      true-called w s line Verb.Put side (EndCall.Put item (id_of line) now) t
      (sound-plain w s now line side (Action.Put item) t.sound)
      (ranges.1.1, (small, refl, ranges.0), AreBytes-id_of line) tt
  true-plain side (Action.PutLast item) ranges =
      true-called w s line Verb.Last side (EndCall.PutLast item (id_of line) now) t
      (sound-plain w s now line side (Action.PutLast item) t.sound)
      (ranges.1.1, (small, refl, ranges.0), AreBytes-id_of line) tt
  true-plain side Action.Pull ranges =
      true-called w s line Verb.Pull side (EndCall.Pull now) t
      (sound-plain w s now line side Action.Pull t.sound) (tt, small, tt) tt
  true-plain side Action.Tick ranges =
      true-called w s line Verb.Tick side (EndCall.Tick now) t
      (sound-plain w s now line side Action.Tick t.sound) (tt, tt, tt) tt
  true-plain side Action.Close ranges =
      true-called w s line Verb.Close side EndCall.Close t
      (sound-plain w s now line side Action.Close t.sound) (tt, tt, tt) tt
  true-plain side Action.Lost ranges =
      true-called w s line Verb.Lost side EndCall.Lost t
      (sound-plain w s now line side Action.Lost t.sound) (tt, tt, tt) tt
  true-plain side Action.Open ranges =
      true-called w s line Verb.Open side (EndCall.Opened now) t
      (sound-plain w s now line side Action.Open t.sound) (tt, tt, tt) tt
  true-plain side _ ranges = absurd ranges

  true-lost : (side : Side) (conn : ℕ) → last_conn (came s) side ≡ Some conn
      → IsTrue w (after_event s now line (Event.Gone conn) (λ to. Incoming.Pause))
  true-lost side conn last =
      true-event w s now line (Event.Gone conn) (λ to. Incoming.Pause) t
      (sound-lost w s now line conn t.sound)
      (placed-gone (came s) t.sound.owned side conn (id_of line) now last)
      (true-own s line now (Event.Gone conn) (λ to. Incoming.Pause) (λ to moment. (tt, tt, tt))
      (λ z. sent-gone z line now small (came s) conn))

  true-loss : (side : Side) (o : Option ℕ) → last_conn (came s) side ≡ o
      → IsTrue w (after_loss s now line o)
  true-loss side None last = t
  true-loss side (Some conn) last = true-lost side conn last

  true-ended : IsTrue w (after_event s now line (Event.EndSession lab) (λ to. Incoming.Closing []))
  true-ended =
      true-event w s now line (Event.EndSession lab) (λ to. Incoming.Closing []) t
      (sound-after w s now line RelayCommand.Finish t.sound)
      (placed-ended (came s) t.sound.owned (id_of line) now)
      (true-own s line now (Event.EndSession lab) (λ to. Incoming.Closing [])
      (λ to moment. (tt, tt, tt)) (λ z. sent-ended z line now small (came s)))

  true-let_in : (side : Side)
      → IsSound w (after_event s now line (opened (came s) side)
      (greeting_to (came s) (next_conn (came s))))
      → IsTrue w (after_event s now line (opened (came s) side)
      (greeting_to (came s) (next_conn (came s))))
  true-let_in side sound =
      true-event w s now line (opened (came s) side) (greeting_to (came s) (next_conn (came s))) t
      sound
      (placed-opened (came s) t.sound.owned side (id_of line) now)
      (true-own s line now (opened (came s) side) (greeting_to (came s) (next_conn (came s)))
      (λ to. fits-greeted (is_ended (came s) lab) (nat_eq to (next_conn (came s))))
      (λ z. sent-opened z line now small (came s) side t.sound.owned))

  true-post : (side : Side) (which : Which) (o : Option ℕ) (emission : Option Outgoing)
      → last_conn (came s) side ≡ o
      → emission_at (emissions (history_of side s.world)) which ≡ emission
      → IsTrue w (posted s now line side o emission).scene
  true-post side which o None last found = t
  true-post side which None (Some out) last found = t
  true-post side which (Some conn) (Some out) last found =
      let sent = emissions (history_of side s.world) in
      let event = Event.Binary conn (encoding side out) in
      true-event w s now line event (λ to. incoming_of out) t
      (sound-posted w s now line side which (Some conn) (Some out) t.sound last found)
      (placed-posted (came s) t.sound.owned side conn (encoding side out) (id_of line) now last)
      (true-posted s line now side conn out t.sound.owned last
      (All-emission (IsSendable side) sent which out (emissions-fit w s t side) found)
      (All-emission OutHas sent which out (emissions-have w s t side) found))

  true-take : (side : Side) (which : Which) (o : Option Letter)
      → emission_at (s.inbox side) which ≡ o
      → IsTrue w (taken w s now line side o).scene
  true-take side which None found = t
  true-take side which (Some letter) found =
      let says : Letter → Incoming = λ l. l.says in
      let letters = s.inbox side in
      true-called w s line Verb.Take side (EndCall.Heard now letter.says) t
      (sound-taken w s now line side which (Some letter) t.sound found)
      ((All-emission (IsTrueLetter side) letters which letter (t.letters side) found).fits now)
      (contains-map says letters letter
      (All-emission (Contains letters) letters which letter (All-contains_itself letters) found))

true-turn : (w : ℕ) (s : Scene) (now line : ℕ) (side : Side) (action : RelayAction)
    → now < 2 ^ 64
    → IsRelayAction action
    → IsTrue w s
    → IsTrue w (turn_of w s now line side action).scene
true-turn w s now line side (RelayAction.Put item) small ranges t =
    true-plain w s now line small t side (Action.Put item) ranges
true-turn w s now line side (RelayAction.PutLast item) small ranges t =
    true-plain w s now line small t side (Action.PutLast item) ranges
true-turn w s now line side RelayAction.Pull small ranges t =
    true-plain w s now line small t side Action.Pull tt
true-turn w s now line side RelayAction.Tick small ranges t =
    true-plain w s now line small t side Action.Tick tt
true-turn w s now line side RelayAction.Close small ranges t =
    true-plain w s now line small t side Action.Close tt
true-turn w s now line side RelayAction.Dial small ranges t =
    true-let_in w (plain w s now line side Action.Open).scene now line small
    (true-plain w s now line small t side Action.Open tt) side
    (sound-dialed w s now line side t.sound)
true-turn w s now line side RelayAction.Gone small ranges t =
    true-loss w (plain w s now line side Action.Lost).scene now line small
    (true-plain w s now line small t side Action.Lost tt) side (last_conn (came s) side) refl
true-turn w s now line side (RelayAction.Post which) small ranges t =
    true-post w s now line small t side which (last_conn (came s) side)
    (emission_at (emissions (history_of side s.world)) which) refl refl
true-turn w s now line side (RelayAction.Take which) small ranges t =
    true-take w s now line small t side which (emission_at (s.inbox side) which) refl

true-after : (w : ℕ) (s : Scene) (now line : ℕ) (command : RelayCommand)
    → now < 2 ^ 64
    → IsRelayCommand command
    → IsTrue w s
    → IsTrue w (scene_after w s now line command)
true-after w s now line (RelayCommand.At moment) small ranges t = t
true-after w s now line RelayCommand.Finish small ranges t = true-ended w s now line small t
true-after w s now line (RelayCommand.On side action) small ranges t =
    true-turn w s now line side action small ranges t

moment-small : (now : ℕ) (command : RelayCommand)
    → now < 2 ^ 64 → IsRelayCommand command → moment_after now command < 2 ^ 64
moment-small now (RelayCommand.At moment) small ranges = ranges
moment-small now RelayCommand.Finish small ranges = small
moment-small now (RelayCommand.On side action) small ranges = small

true-progress : (w : ℕ) (commands : List RelayCommand) → All IsRelayCommand commands
    → IsTrue w (progress w commands).scene
unfolding progress
true-progress w commands ranges =
    goes beginning commands (true-start w) (omega arith) ranges
  where
    goes : (p : Progress) (commands : List RelayCommand) → IsTrue w p.scene
        → p.now < 2 ^ 64
        → All IsRelayCommand commands
        → IsTrue w (fold (progress_after w) p commands).scene
    goes p [] t small ranges = t
    goes p (c ∷ cs) t small ranges =
        let first = All-head IsRelayCommand c cs ranges in
        goes (progress_after w p c) cs (true-after w p.scene p.now p.line c small first t)
        (moment-small p.now c small first) (All-tail IsRelayCommand c cs ranges)

pub inboxes_are_true : EveryInboxIsTrue
inboxes_are_true w commands ranges =
    let t = true-progress w commands ranges in
    let s = (progress w commands).scene in
    record {
      sent = t.sent.sent;
      says = λ side.
          All-weaker (IsTrueLetter side) _ (λ l is. is.arrives) (s.inbox side) (t.letters side);
      heard = λ side.
          All-weaker (IsTrueEntry (s.inbox side)) _ (λ e is. is.heard) (history_of side s.world)
          (t.entries side);
      stays = λ rest side. (scene-front w commands rest).inbox side;
    }
