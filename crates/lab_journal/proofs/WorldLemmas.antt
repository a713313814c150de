-- What is known of a world, and the record of one step more.
use Rattle.std.proofs.Common.{◌≡◌, ℕ, ◌/◌, ◌%◌, ◌^◌, ◌<◌, zero, suc, Option, Some, None, Ok, List, [], ◌∷◌, ◌++◌, length, replicate, ⊎_elim, refl, sym, ap, subst, ◌∙◌, append_assoc, append-nil, arith}
use Rattle.std.specs.Int.{byte_at, bytes_high_first, w64, to_be_bytes}
use Rattle.std.specs.List.{All, AllZip, cons_option, filter_map}
use Rattle.std.specs.Option.{option_and_then, option_map}
use Rattle.std.proofs.lemmas.List.Elements.{All-append, All-cons, All-nil, All-push, filter_map-append}
use Rattle.chan_values.specs.declared.side.Side.{Side}
use Rattle.chan_values.specs.declared.side.Side.TheVariants.{Plugin, Agent}
use Rattle.chan_values.specs.Sides.{other}
use Rattle.channel_core.specs.declared.call.EndCall.{EndCall}
use Rattle.channel_core.specs.declared.message.Incoming.TheVariants as Incoming
use Rattle.channel_core.specs.declared.message.Outgoing.{Outgoing}
use Rattle.channel_core.specs.Call.{Entry}
use Rattle.channel_core.specs.Exchange.{incoming_of}
use Rattle.channel_core.specs.History.{emissions, message_emitted}
use Rattle.channel_core.specs.Legal.{IsNoMemory}
use Rattle.channel_core.specs.Wire.{encoding}
use Rattle.channel_core.specs.World.{Event, entry_at, history_of}
use Rattle.channel_core.proofs.WorldLemmas.{IsRight, cases_side, event_of, history_of-here, history_of-there}
use Rattle.session_audit.specs.Moves.{Move, moves_of}
use Rattle.session_audit.proofs.ReplayLemmas.{never_wants}
use Rattle.lab_script.specs.declared.command.Action.{Action}
use Rattle.lab_script.specs.declared.command.Command.{Command}
use Rattle.lab_script.specs.declared.word.Which.{Which}
use Rattle.lab_run.specs.Ends.{AllSendable, IsSendable}
use Rattle.lab_run.specs.Steps.{Step, emission_at, events_of, heard_at, id_of, steps_at, step_of}
use Rattle.lab_run.proofs.EmissionLemmas.{All-emission}
use Rattle.lab_run.proofs.PassLemmas.{world-then}
use Rattle.lab_run.proofs.RightLemmas.{IsRight-step}
use Rattle.relay_core.specs.Messages.{closing, pause, start}
use Rattle.lab_relay.specs.Scene.{lab}
use Rattle.channel_core.specs.Arrival.{Arrives}
use Rattle.lab_relay.proofs.OwnMessageLemmas.{Arrives-closing, Arrives-pause, Arrives-start}
use Rattle.lab_journal.specs.Records.{bytes_of, event_record, step_record, step_records, which_of}
use Rattle.lab_journal.proofs.ArrivingLemmas.{Arrives-emission}
use Rattle.lab_journal.proofs.IdLemmas.{BringsId, HasId, IsId, emissions-have-ids}
use Rattle.lab_journal.proofs.VerbLemmas.{emission_heard}
use Rattle.lab_journal.proofs.StepLemmas.{SaysMove, SaysSeen, move_at, says_close, says_hearing, says_loss, says_opening, says_pull, says_tick}

-- ---- what is known of a world

-- it is legal and honest, the ids that its calls bring are bytes, and no call wanted for memory
pub record IsKnown (w : ℕ) (world : List Event) : Type 0 where
  pub right : IsRight w world
  pub ids : (side : Side) → All (λ e. BringsId e.call) (history_of side world)
  pub remembered : All (λ x. ¬ IsNoMemory x.entry.call x.entry.answer) world

-- so are the ids of what its ends emitted
ids_of : (w : ℕ) (world : List Event) (side : Side) → IsKnown w world
    → All HasId (emissions (history_of side world))
ids_of w world side known =
    emissions-have-ids w (history_of side world) (known.right.legal side) (known.ids side)

-- one call more
brings_more : (world : List Event) (x : Event)
    → ((side : Side) → All (λ e. BringsId e.call) (history_of side world))
    → BringsId x.entry.call
    → (side : Side)
    → All (λ e. BringsId e.call) (history_of side (world ++ x ∷ []))
brings_more world x before brings side =
    let P : Entry → Type 0 = λ e. BringsId e.call in
    ⊎_elim
    (λ (here : x.side ≡ side).
    subst (All P) (sym (history_of-here side world x here))
    (All-push P (history_of side world) x.entry (before side) brings))
    (λ (there : x.side ≡ other side).
    subst (All P) (sym (history_of-there side world x there)) (before side))
    (cases_side side x.side)

known_more : (w : ℕ) (world : List Event) (side : Side) (call : EndCall)
    → IsKnown w world
    → IsRight w (world ++ event_of w world side call ∷ [])
    → BringsId call
    → IsKnown w (world ++ event_of w world side call ∷ [])
known_more w world side call known right brings =
    record {
      right = right;
      ids = brings_more world (event_of w world side call) known.ids brings;
      remembered =
          All-push (λ (x : Event). ¬ IsNoMemory x.entry.call x.entry.answer) world
          (event_of w world side call) known.remembered
          (never_wants w (history_of side world) call);
    }

-- a call that is not made changes nothing
pub known_same : (w : ℕ) (world : List Event) → IsKnown w world → IsKnown w (world ++ [])
known_same w world known = rw append-nil known

-- the id of what a line puts in is of bytes
byte_small : (n : ℕ) → n % 256 < 256
byte_small n = omega arith

byte_at-small : (k n : ℕ) → byte_at k n < 256
byte_at-small zero n = byte_small n
byte_at-small (suc i) n = byte_small (n / 256 ^ suc i)

IsId-bytes : (k n : ℕ) → IsId (bytes_high_first k n)
IsId-bytes zero n = All-nil (λ (byte : ℕ). byte < 256)
IsId-bytes (suc k) n =
    All-cons (λ (byte : ℕ). byte < 256) (byte_at k n) (bytes_high_first k n) (byte_at-small k n)
    (IsId-bytes k n)

IsId-line : (line : ℕ) → IsId (id_of line)
IsId-line line =
    All-append (λ (byte : ℕ). byte < 256) (replicate 8 0) (to_be_bytes w64 line) zeros
    (IsId-bytes 8 line)
  where
    zeros : IsId (replicate 8 0)
    zeros = search (arith, All-cons, All-nil)

-- the id of what is heard of an emission
brings_heard : (now : ℕ) (out : Outgoing) → HasId out
    → BringsId (EndCall.Heard now (incoming_of out))
brings_heard now (Outgoing.Stream m) ids = ids
brings_heard now (Outgoing.Ack n id date) ids = tt

-- ---- the step of a line

known_heard : (w : ℕ) (world : List Event) (now line : ℕ) (side : Side) (o : Option Outgoing)
    → IsKnown w world
    → IsRight w (world ++ events_of (heard_at w world now line side o ∷ []))
    → ((out : Outgoing) → o ≡ Some out → HasId out)
    → IsKnown w (world ++ events_of (heard_at w world now line side o ∷ []))
known_heard w world now line side None known right ids = known_same w world known
known_heard w world now line side (Some out) known right ids =
    known_more w world side (EndCall.Heard now (incoming_of out)) known right
    (brings_heard now out (ids out refl))

pub known_step : (w : ℕ) (world : List Event) (now line : ℕ) (side : Side) (action : Action)
    → IsKnown w world
    → IsKnown w (world ++ events_of (step_of w world now line side action ∷ []))
known_step w world now line side action known = by action (IsRight-step w world now line side action known.right)
  where
    by : (action : Action)
        → IsRight w (world ++ events_of (step_of w world now line side action ∷ []))
        → IsKnown w (world ++ events_of (step_of w world now line side action ∷ []))
    by (Action.Put item) right =
        known_more w world side (EndCall.Put item (id_of line) now) known right (IsId-line line)
    by (Action.PutLast item) right =
        known_more w world side (EndCall.PutLast item (id_of line) now) known right (IsId-line line)
    by Action.Pull right = known_more w world side (EndCall.Pull now) known right tt
    by Action.Tick right = known_more w world side (EndCall.Tick now) known right tt
    by Action.Close right = known_more w world side EndCall.Close known right tt
    by (Action.Hear which) right =
        let sent = emissions (history_of (other side) world) in
        known_heard w world now line side (emission_at sent which) known right
        (λ out found. All-emission HasId sent which out (ids_of w world (other side) known) found)
    by (Action.Hurt which place) right = known_same w world known
    by Action.Lost right = known_more w world side EndCall.Lost known right tt
    by Action.Open right = known_more w world side (EndCall.Opened now) known right tt
    by Action.Pause right =
        known_more w world side (EndCall.Heard now Incoming.Pause) known right tt
    by Action.Start right =
        known_more w world side (EndCall.Heard now Incoming.Start) known right tt
    by Action.End right =
        known_more w world side (EndCall.Heard now (Incoming.Closing [])) known right tt

says_heard : (w : ℕ) (which : Which) (world : List Event) (now line : ℕ) (side : Side)
    (o : Option Outgoing)
    → emission_at (emissions (history_of (other side) world)) which ≡ o
    → ((out : Outgoing) → o ≡ Some out → IsSendable (other side) out × HasId out)
    → let s = heard_at w world now line side o in
    SaysSeen (option_and_then move_at s.event) (step_record which world s)
says_heard w which world now line side None is fits = tt
says_heard w which world now line side (Some out) is fits =
    let both = fits out refl in
    let bytes = emission_heard which world line now side out ∙ ap (bytes_of (other side)) is in
    says_hearing side _ (incoming_of out)
    (subst (λ (l : List ℕ). Arrives side l (Ok (incoming_of out))) (sym bytes)
    (Arrives-emission side out both.0 both.1))

pub says_step : (w : ℕ) (world : List Event) (now line : ℕ) (side : Side) (action : Action)
    → IsKnown w world
    → now < 2 ^ 64
    → AllSendable world
    → let s = step_of w world now line side action in
    AllSendable (world ++ events_of (s ∷ []))
    → SaysSeen (option_and_then move_at s.event) (step_record (which_of action) world s)
says_step w world now line side (Action.Put item) known small before after = tt
says_step w world now line side (Action.PutLast item) known small before after = tt
says_step w world now line side Action.Pull known small before after =
    says_pull w world side now _ (after side)
    (ids_of w _ side (known_step w world now line side Action.Pull known))
says_step w world now line side Action.Tick known small before after =
    says_tick w world side now _
says_step w world now line side Action.Close known small before after = says_close side []
says_step w world now line side (Action.Hear which) known small before after =
    let sent = emissions (history_of (other side) world) in
    says_heard w which world now line side (emission_at sent which) refl
    (λ out found. (
      All-emission (IsSendable (other side)) sent which out (before (other side)) found,
      All-emission HasId sent which out (ids_of w world (other side) known) found,
    ))
says_step w world now line side (Action.Hurt which place) known small before after = tt
says_step w world now line side Action.Lost known small before after = says_loss side []
says_step w world now line side Action.Open known small before after = says_opening side []
says_step w world now line side Action.Pause known small before after =
    says_hearing side (pause (id_of line) now) Incoming.Pause (Arrives-pause side line now small)
says_step w world now line side Action.Start known small before after =
    says_hearing side (start (id_of line) now) Incoming.Start (Arrives-start side line now small)
says_step w world now line side Action.End known small before after =
    says_hearing side (closing lab (id_of line) now) (Incoming.Closing [])
    (Arrives-closing side line now small)
