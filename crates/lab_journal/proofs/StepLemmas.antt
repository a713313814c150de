-- The record of a step says what is seen of it, and has no fault of form.
use Rattle.std.proofs.Common.{◌≡◌, ℕ, ◌^◌, ◌<◌, Option, Some, None, Ok, List, [], ◌∷◌, ◌++◌, length, refl, sym, ap, subst, ◌∙◌, append-nil, arith, rules}
use Rattle.std.specs.List.{All, cons_option}
use Rattle.std.specs.Option.{option_and_then, option_map}
use Rattle.std.proofs.lemmas.List.Elements.{All-cons, All-nil, All-push}
use Rattle.chan_values.specs.declared.side.Side.{Side}
use Rattle.chan_values.specs.Sides.{other}
use Rattle.channel_core.specs.declared.answer.Pull.{Pull}
use Rattle.channel_core.specs.declared.answer.Tick.{Tick}
use Rattle.channel_core.specs.declared.call.EndAnswer.{EndAnswer}
use Rattle.channel_core.specs.declared.call.EndCall.{EndCall}
use Rattle.channel_core.specs.declared.message.Incoming.{Incoming}
use Rattle.channel_core.specs.declared.message.Outgoing.{Outgoing}
use Rattle.channel_core.specs.Arrival.{Arrives}
use Rattle.channel_core.specs.Exchange.{incoming_of}
use Rattle.channel_core.specs.History.{emissions, message_emitted}
use Rattle.channel_core.specs.Legal.{IsNoMemory, answer_to, answer_to_pull, answer_to_tick}
use Rattle.channel_core.specs.Wire.{encoding}
use Rattle.channel_core.specs.World.{Event, history_of}
use Rattle.channel_core.proofs.HistoryLemmas.{emissions-push}
use Rattle.channel_core.proofs.LegalLemmas.{All-pushed}
use Rattle.channel_core.proofs.WorldLemmas.{event_of, history_of-here}
use Rattle.session_audit.specs.declared.act.Act.{Act}
use Rattle.session_audit.specs.Acts.{act_of}
use Rattle.session_audit.specs.Journal.{IsFormed, IsRecordOf, IsSendable, letter}
use Rattle.session_audit.specs.Moves.{Move, move_of}
use Rattle.lab_run.specs.Ends.{AllSendable}
use Rattle.lab_journal.specs.Records.{record_of}
use Rattle.lab_journal.proofs.ArrivingLemmas.{Arrives-encoding}
use Rattle.lab_journal.proofs.FormLemmas.{formed_bare, formed_emission, formed_hearing}
use Rattle.lab_journal.proofs.IdLemmas.{HasId}

-- a record says what is seen, and has no fault of form
abbrev pub SaysMove : Move → List ℕ → Type 0
SaysMove m r = IsRecordOf m.side m.act r × IsFormed r

-- the same of what may be seen and of its record
abbrev pub SaysSeen : Option Move → Option (List ℕ) → Type 0
SaysSeen None None = Unit {0}
SaysSeen None (Some r) = ⊥
SaysSeen (Some m) None = ⊥
SaysSeen (Some m) (Some r) = SaysMove m r

-- what is seen of an event
abbrev pub move_at : Event → Option Move
move_at x = option_map (move_of x.side) (act_of x.entry.answer x.entry.call)

-- where each act that is seen has its record
says_act : (side : Side) (bytes : List ℕ) (o : Option Act)
    → ((act : Act) → o ≡ Some act → SaysMove (move_of side act) (record_of side bytes act))
    → SaysSeen (option_map (move_of side) o) (option_map (record_of side bytes) o)
says_act side bytes None each = tt
says_act side bytes (Some act) each = each act refl

-- ---- the acts

pub says_opening : (side : Side) (bytes : List ℕ)
    → SaysMove (move_of side Act.Opens) (record_of side bytes Act.Opens)
says_opening side bytes = (refl, formed_bare side 2 (omega arith) (omega arith))

pub says_loss : (side : Side) (bytes : List ℕ)
    → SaysMove (move_of side Act.Loses) (record_of side bytes Act.Loses)
says_loss side bytes = (refl, formed_bare side 3 (omega arith) (omega arith))

pub says_close : (side : Side) (bytes : List ℕ)
    → SaysMove (move_of side Act.Closes) (record_of side bytes Act.Closes)
says_close side bytes = (refl, formed_bare side 4 (omega arith) (omega arith))

pub says_hearing : (side : Side) (bytes : List ℕ) (incoming : Incoming)
    → Arrives side bytes (Ok incoming)
    → SaysMove (move_of side (Act.Hears incoming)) (record_of side bytes (Act.Hears incoming))
says_hearing side bytes incoming arrives =
    ((bytes, refl, arrives), formed_hearing side bytes incoming arrives)

says_emission : (side : Side) (bytes : List ℕ) (out : Outgoing)
    → IsSendable side out
    → HasId out
    → SaysMove (move_of side (Act.Emits out)) (record_of side bytes (Act.Emits out))
says_emission side bytes out sendable ids = (
  (sendable, refl),
  formed_emission side (encoding side out) (incoming_of out) (Arrives-encoding side out sendable ids),
)

-- ---- a pull and a tick

-- what is given out stands among the emissions, so that it has an encoding and an id of bytes
pulled : (side : Side) (bytes : List ℕ) (now : ℕ) (sent : List Outgoing) (p : Pull)
    → let more = sent ++ cons_option (message_emitted (EndAnswer.Pull p)) [] in
    All (IsSendable side) more
    → All HasId more
    → SaysSeen
    (option_map (move_of side) (act_of (EndAnswer.Pull p) (EndCall.Pull now)))
    (option_map (record_of side bytes) (act_of (EndAnswer.Pull p) (EndCall.Pull now)))
pulled side bytes now sent (Pull.Emit out) sendable ids =
    says_emission side bytes out
    (All-pushed (IsSendable side) sent out sendable).1
    (All-pushed HasId sent out ids).1
pulled side bytes now sent Pull.Idle sendable ids = tt
pulled side bytes now sent Pull.NoMemory sendable ids = tt

pub says_pull : (w : ℕ) (world : List Event) (side : Side) (now : ℕ) (bytes : List ℕ)
    → let x = event_of w world side (EndCall.Pull now) in
    All (IsSendable side) (emissions (history_of side (world ++ x ∷ [])))
    → All HasId (emissions (history_of side (world ++ x ∷ [])))
    → SaysSeen (move_at x)
    (option_map (record_of side bytes) (act_of x.entry.answer x.entry.call))
says_pull w world side now bytes sendable ids =
    let h = history_of side world in
    let x = event_of w world side (EndCall.Pull now) in
    let more : emissions (history_of side (world ++ x ∷ []))
    ≡ emissions h ++ cons_option (message_emitted x.entry.answer) []
    = ap emissions (history_of-here side world x refl) ∙ emissions-push h x.entry in
    pulled side bytes now (emissions h) (answer_to_pull w h now)
    (subst (All (IsSendable side)) more sendable) (subst (All HasId) more ids)

-- a tick at which the end gives up shows a close
ticked : (side : Side) (bytes : List ℕ) (now : ℕ) (t : Tick)
    → SaysSeen
    (option_map (move_of side) (act_of (EndAnswer.Tick t) (EndCall.Tick now)))
    (option_map (record_of side bytes) (act_of (EndAnswer.Tick t) (EndCall.Tick now)))
ticked side bytes now Tick.Nothing = tt
ticked side bytes now (Tick.Due n) = tt
ticked side bytes now (Tick.GaveUp n) = says_close side bytes

pub says_tick : (w : ℕ) (world : List Event) (side : Side) (now : ℕ) (bytes : List ℕ)
    → let x = event_of w world side (EndCall.Tick now) in
    SaysSeen (move_at x)
    (option_map (record_of side bytes) (act_of x.entry.answer x.entry.call))
says_tick w world side now bytes =
    ticked side bytes now (answer_to_tick (history_of side world) now)
