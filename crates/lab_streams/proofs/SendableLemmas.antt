-- The calls of the ends in a script with streams fit, so that all that they emit has an encoding.
use Rattle.std.proofs.Common.{◌≡◌, ℕ, ◌+◌, ◌*◌, ◌≤◌, ◌<◌, ◌^◌, zero, suc, Option, Some, None, List, [], ◌∷◌, ◌++◌, length, refl, sym, subst, ◌∙◌, append-nil, arith}
use Rattle.std.specs.List.{All, Contains, fold}
use Rattle.std.proofs.lemmas.Bool.{cond_both}
use Rattle.std.proofs.lemmas.List.Elements.{All-contains, All-head, All-nil, All-push, All-tail}
use Rattle.std.proofs.lemmas.Option.{slice_get_within, get_or_from_slice_get}
use Rattle.chan_values.specs.declared.item.Item.{Item}
use Rattle.chan_values.specs.declared.side.Side.{Side}
use Rattle.chan_values.specs.declared.side.Side.TheVariants.{Plugin, Agent}
use Rattle.chan_values.specs.Sides.{other}
use Rattle.channel_core.specs.declared.call.EndCall.{EndCall}
use Rattle.channel_core.specs.declared.message.Incoming.TheVariants as Incoming
use Rattle.channel_core.specs.declared.message.Outgoing.{Outgoing}
use Rattle.channel_core.specs.Condition.{IsCallable}
use Rattle.channel_core.specs.Exchange.{incoming_of}
use Rattle.channel_core.specs.History.{emissions}
use Rattle.channel_core.specs.World.{Event, WasEmitted, history_of}
use Rattle.channel_core.proofs.WorldLemmas.{IsRight, IsRight-push, WasEmitted-of, by_side, event_of, history_of-away, history_of-here, other-other}
use Rattle.lab_script.specs.declared.command.Action.{Action}
use Rattle.lab_script.specs.declared.command.Command.{Command}
use Rattle.lab_script.specs.declared.stream_command.StreamCommand.{StreamCommand}
use Rattle.lab_script.specs.declared.verb.Verb.TheVariants as Verb
use Rattle.lab_script.specs.declared.word.Which.{Which}
use Rattle.lab_script.specs.Command.{IsAction, IsCommand}
use Rattle.lab_script.specs.StreamCommand.{IsStreamCommand}
use Rattle.lab_run.specs.Ends.{IsSendable}
use Rattle.lab_run.specs.Outcomes.{is_emission}
use Rattle.lab_run.specs.Steps.{Step, called, emission_at, events_of, heard_at, id_of, pass_steps, settle_steps, start, step_of, steps_of}
use Rattle.lab_run.proofs.PassLemmas.{world-then}
use Rattle.lab_run.proofs.RightLemmas.{IsRight-start}
use Rattle.lab_run.proofs.TypedLemmas.{All-sendable, IsFit, IsTyped}
use Rattle.lab_streams.specs.Laws.{EveryStreamEmissionIsSendable}
use Rattle.lab_streams.specs.Run.{StreamProgress, beginning, past_of, stream_moment, stream_progress, stream_progress_after, stream_run}
use Rattle.lab_streams.specs.Steps.{Past, after, stream_item, stream_steps}
use Rattle.lab_streams.proofs.PastLemmas.{after-none}
use Rattle.lab_streams.proofs.RunLemmas.{at_first, past_of-append}
use Rattle.lab_streams.proofs.WorldLemmas.{by_line}

-- the world is legal and honest, and the calls in it fit
record IsGood (w : ℕ) (world : List Event) : Type 0 where
  right : IsRight w world
  fit : (side : Side) → All IsFit (history_of side world)

-- what an end emitted in it has an encoding
sendable : (w : ℕ) (world : List Event) (side : Side)
    → IsGood w world
    → All (IsSendable side) (emissions (history_of side world))
sendable w world side good =
    All-sendable w side (history_of side world) (good.right.legal side) (good.fit side)

-- one call more that fits, and hears what was emitted
good_call : (w : ℕ) (world : List Event) (side : Side) (call : EndCall)
    → IsGood w world
    → WasEmitted (emissions (history_of (other side) world)) call
    → IsCallable call × IsTyped call
    → IsGood w (world ++ event_of w world side call ∷ [])
good_call w world side call good was fits =
    let x = event_of w world side call in
    record {
      right = IsRight-push w world side call good.right was;
      fit =
          by_side (λ z. All IsFit (history_of z (world ++ x ∷ []))) side
          (subst (All IsFit) (sym (history_of-here side world x refl))
          (All-push IsFit (history_of side world) x.entry (good.fit side) fits))
          (subst (All IsFit) (sym (history_of-away side world x refl)) (good.fit (other side)));
    }

-- ---- steps

-- the hearing of an emission that has an encoding fits
hearing_fits : (side : Side) (now : ℕ) (out : Outgoing)
    → IsSendable side out
    → IsCallable (EndCall.Heard now (incoming_of out))
    × IsTyped (EndCall.Heard now (incoming_of out))
hearing_fits side now (Outgoing.Stream m) has = (has.0.0, by_end side has)
  where
    by_end : (side : Side) → IsSendable side (Outgoing.Stream m) → length m.id ≡ 16
    by_end Plugin has = has.1.id
    by_end Agent has = has.1.id
hearing_fits side now (Outgoing.Ack n id date) has = (has.0.0, tt)

good_hearing : (w : ℕ) (world : List Event) (now line : ℕ) (side : Side) (o : Option Outgoing)
    → IsGood w world
    → ((out : Outgoing)
    → o ≡ Some out
    → Contains (emissions (history_of (other side) world)) out)
    → IsGood w (world ++ events_of (heard_at w world now line side o ∷ []))
good_hearing w world now line side None good there = rw append-nil good
good_hearing w world now line side (Some out) good there =
    let far = other side in
    let sent = emissions (history_of far world) in
    good_call w world side (EndCall.Heard now (incoming_of out)) good
    (WasEmitted-of sent now out (there out refl))
    (hearing_fits far now out
    (All-contains (IsSendable far) sent out (sendable w world far good) (there out refl)))

-- the emission that a line means is one of them
emission_is_one : (sent : List Outgoing) (which : Which) (out : Outgoing)
    → emission_at sent which ≡ Some out
    → Contains sent out
emission_is_one sent (Which.Number k) out found =
    (k, slice_get_within sent k out found, get_or_from_slice_get sent k out out found)
emission_is_one sent Which.Last out found =
    (_, slice_get_within sent _ out found, get_or_from_slice_get sent _ out out found)

-- the put of an item
good_put : (w : ℕ) (world : List Event) (now line : ℕ) (side : Side) (item : Item)
    → IsGood w world
    → now < 2 ^ 64
    → item.ptype < 2 ^ 32
    → length item.payload ≤ 65536
    → IsGood w (world ++ events_of (step_of w world now line side (Action.Put item) ∷ []))
good_put w world now line side item good small type few =
    good_call w world side (EndCall.Put item (id_of line) now) good tt (few, (small, refl, type))

good_step : (w : ℕ) (world : List Event) (now line : ℕ) (side : Side) (action : Action)
    → IsGood w world
    → now < 2 ^ 64
    → IsAction action
    → IsGood w (world ++ events_of (step_of w world now line side action ∷ []))
good_step w world now line side (Action.Put item) good small ranges =
    good_put w world now line side item good small ranges.0 ranges.1.1
good_step w world now line side (Action.PutLast item) good small ranges =
    good_call w world side (EndCall.PutLast item (id_of line) now) good tt
    (ranges.1.1, (small, refl, ranges.0))
good_step w world now line side Action.Pull good small ranges =
    good_call w world side (EndCall.Pull now) good tt (tt, small)
good_step w world now line side Action.Tick good small ranges =
    good_call w world side (EndCall.Tick now) good tt (tt, tt)
good_step w world now line side Action.Close good small ranges =
    good_call w world side EndCall.Close good tt (tt, tt)
good_step w world now line side (Action.Hear which) good small ranges =
    let sent = emissions (history_of (other side) world) in
    good_hearing w world now line side (emission_at sent which) good
    (λ out found. emission_is_one sent which out found)
good_step w world now line side (Action.Hurt which place) good small ranges = rw append-nil good
good_step w world now line side Action.Lost good small ranges =
    good_call w world side EndCall.Lost good tt (tt, tt)
good_step w world now line side Action.Open good small ranges =
    good_call w world side (EndCall.Opened now) good tt (tt, tt)
good_step w world now line side Action.Pause good small ranges =
    good_call w world side (EndCall.Heard now Incoming.Pause) good tt (tt, tt)
good_step w world now line side Action.Start good small ranges =
    good_call w world side (EndCall.Heard now Incoming.Start) good tt (tt, tt)
good_step w world now line side Action.End good small ranges =
    good_call w world side (EndCall.Heard now (Incoming.Closing [])) good tt (tt, tt)

-- ---- settles

good_pass : (n w : ℕ) (world : List Event) (now line : ℕ) (side : Side)
    → IsGood w world
    → now < 2 ^ 64
    → IsGood w (world ++ events_of (pass_steps n w world now line side))
unfolding pass_steps
good_pass zero w world now line side good small = rw append-nil good
good_pass (suc n) w world now line side good small =
    let pulled = called w world line Verb.Pull side (EndCall.Pull now) in
    let one = world ++ events_of (pulled ∷ []) in
    let sent = emissions (history_of side one) in
    let last = emission_at sent Which.Last in
    let heard = heard_at w one now line (other side) last in
    let two = one ++ events_of (heard ∷ []) in
    let rest = pass_steps n w two now line side in
    let first : IsGood w one = good_call w world side (EndCall.Pull now) good tt (tt, small) in
    let second : IsGood w two = good_hearing w one now line (other side) last first
    (λ out found.
    subst (λ (z : Side). Contains (emissions (history_of z one)) out) (sym (other-other side))
    (emission_is_one sent Which.Last out found)) in
    cond_both (is_emission pulled.outcome) (heard ∷ rest) []
    (λ (l : List Step). IsGood w (world ++ events_of (pulled ∷ l)))
    (λ _.
    subst (IsGood w)
    (world-then one (heard ∷ []) rest ∙ world-then world (pulled ∷ []) (heard ∷ rest))
    (good_pass n w two now line side second small))
    (λ _. first)

good_settle : (w : ℕ) (world : List Event) (now line : ℕ)
    → IsGood w world
    → now < 2 ^ 64
    → IsGood w (world ++ events_of (settle_steps w world now line))
good_settle w world now line good small =
    let plugin = called w world line Verb.Open Plugin (EndCall.Opened now) in
    let one = world ++ events_of (plugin ∷ []) in
    let agent = called w one line Verb.Open Agent (EndCall.Opened now) in
    let two = one ++ events_of (agent ∷ []) in
    let to_agent = pass_steps (2 * w + 1) w two now line Plugin in
    let three = two ++ events_of to_agent in
    let to_plugin = pass_steps (2 * w + 1) w three now line Agent in
    let open_one : IsGood w one
    = good_call w world Plugin (EndCall.Opened now) good tt (tt, tt) in
    let open_two : IsGood w two
    = good_call w one Agent (EndCall.Opened now) open_one tt (tt, tt) in
    subst (IsGood w)
    (world-then two to_agent to_plugin
    ∙ world-then one (agent ∷ []) (to_agent ++ to_plugin)
    ∙ world-then world (plugin ∷ []) (agent ∷ (to_agent ++ to_plugin)))
    (good_pass (2 * w + 1) w three now line Agent
    (good_pass (2 * w + 1) w two now line Plugin open_two small) small)

-- ---- lines

good_plain : (w : ℕ) (world : List Event) (now line : ℕ) (command : Command)
    → IsGood w world
    → now < 2 ^ 64
    → IsCommand command
    → IsGood w (world ++ events_of (steps_of w world now line command))
good_plain w world now line (Command.At moment) good small ranges = rw append-nil good
good_plain w world now line Command.Settle good small ranges =
    good_settle w world now line good small
good_plain w world now line (Command.On side action) good small ranges =
    good_step w world now line side action good small ranges

good_line : (w : ℕ) (past : Past) (now line : ℕ) (command : StreamCommand)
    → IsGood w past.events
    → now < 2 ^ 64
    → IsStreamCommand command
    → IsGood w (after past (stream_steps w past now line command)).events
good_line w past now line command good small ranges =
    by_line (IsGood w) w past now line command good
    (λ plain is.
    good_plain w past.events now line plain good small (subst IsStreamCommand is ranges).0)
    (λ side most bytes is few.
    good_put w past.events now line side (stream_item bytes) good small (omega arith)
    (omega (arith, few, (subst IsStreamCommand is ranges).1)))

-- ---- scripts

good_start : (w : ℕ) → IsGood w start
unfolding history_of
good_start w = record { right = IsRight-start w; fit = λ side. at side }
  where
    at : (side : Side) → All IsFit (history_of side start)
    at Plugin = All-push IsFit [] _ (All-nil IsFit) (tt, tt)
    at Agent = All-push IsFit [] _ (All-nil IsFit) (tt, tt)

-- the moment stays in range
moment_fits : (now : ℕ) (command : StreamCommand)
    → now < 2 ^ 64
    → IsStreamCommand command
    → stream_moment now command < 2 ^ 64
moment_fits now (StreamCommand.Plain (Command.At moment)) small ranges = ranges.0
moment_fits now (StreamCommand.Plain Command.Settle) small ranges = small
moment_fits now (StreamCommand.Plain (Command.On side action)) small ranges = small
moment_fits now StreamCommand.Open small ranges = small
moment_fits now (StreamCommand.On side action) small ranges = small

good_lines : (w : ℕ) (p : StreamProgress) (commands : List StreamCommand)
    → IsGood w (past_of p.steps).events
    → p.now < 2 ^ 64
    → All IsStreamCommand commands
    → IsGood w (past_of (fold (stream_progress_after w) p commands).steps).events
good_lines w p [] good small ranges = good
good_lines w p (c ∷ cs) good small ranges =
    let first = All-head IsStreamCommand c cs ranges in
    let steps = stream_steps w (past_of p.steps) p.now p.line c in
    good_lines w (stream_progress_after w p c) cs
    (subst (λ (q : Past). IsGood w q.events) (sym (past_of-append p.steps steps))
    (good_line w (past_of p.steps) p.now p.line c good small first))
    (moment_fits p.now c small first)
    (All-tail IsStreamCommand c cs ranges)

pub every_emission_is_sendable : EveryStreamEmissionIsSendable
unfolding stream_progress
every_emission_is_sendable w commands ranges side =
    sendable w (past_of (stream_run w commands)).events side
    (good_lines w at_first commands
    (subst (λ (p : Past). IsGood w p.events) (sym (after-none beginning)) (good_start w))
    (omega arith) ranges)
