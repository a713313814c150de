-- The laws of scripts with streams.
use Rattle.std.proofs.Common.{◌≡◌, ℕ, ◌+◌, true, false, List, [], ◌∷◌, ◌++◌, length, map, refl, sym, ap, subst, ◌∙◌}
use Rattle.std.specs.List.{All}
use Rattle.std.proofs.lemmas.List.Elements.{filter_map-append}
use Rattle.chan_values.specs.declared.side.Side.{Side}
use Rattle.chan_values.specs.declared.side.Side.TheVariants.{Plugin, Agent}
use Rattle.chan_values.specs.Sides.{other}
use Rattle.channel_core.specs.Exchange.{IsExchange}
use Rattle.channel_core.specs.History.{PutMessage, has_ended, is_closed, put_items, released_items}
use Rattle.channel_core.specs.Legal.{IsLegal}
use Rattle.channel_core.specs.World.{Event, entry_at, history_of}
use Rattle.channel_core.proofs.DeliveryLemmas.{each_number_is_taken_once, released_is_prefix}
use Rattle.channel_core.proofs.ExchangeLemmas.{exchange_releases_all}
use Rattle.channel_core.proofs.FinishLemmas.{finished_is_once, nothing_follows_the_last}
use Rattle.channel_core.proofs.WholeLemmas.{finished_is_whole}
use Rattle.channel_core.proofs.WithinLemmas.{nothing_is_past_the_end}
use Rattle.channel_core.proofs.WorldLemmas.{IsRight}
use Rattle.lab_script.specs.declared.command.Command.{Command}
use Rattle.lab_script.specs.declared.stream_command.StreamCommand.{StreamCommand}
use Rattle.lab_script.specs.StreamCommand.{IsStreamCommand}
use Rattle.lab_run.specs.Steps.{events_of, settle_lines, settle_steps, steps_at, steps_of}
use Rattle.lab_run.proofs.SettleLemmas.{IsRight-settle, settle_has_lines, settle_is_exchange}
use Rattle.smux_acts.specs.Acts.{delivered, finished, written}
use Rattle.smux_acts.specs.Each.{IsPrefixOf as Prefix}
use Rattle.smux_acts.specs.Laws.{IsWhole}
use Rattle.smux_streams.proofs.Ends.{end_law}
use Rattle.smux_streams.proofs.Pairs.{pair_end_law, pair_law}
use Rattle.lab_streams.specs.Laws.{AreEndsFaithful, AreStreamsFaithful, IsStreamFaithful, IsStreamSettled, StreamLaws, acts_at, settle_line}
use Rattle.lab_streams.specs.Run.{past_of, stream_progress, stream_run}
use Rattle.lab_streams.specs.Steps.{Past, StreamStep, after, bytes_of, events_in, fed_steps, is_client, mux_history, stream_steps_at}
use Rattle.lab_streams.proofs.CarriedLemmas.{IsCarried, arrived_is_given}
use Rattle.lab_streams.proofs.PastLemmas.{events_in-fed_steps, fed_steps-append, fed_steps-none, past_then-events}
use Rattle.lab_streams.proofs.RunLemmas.{past_of-append, run-front, run-push}
use Rattle.lab_streams.proofs.LineLemmas.{carried_run}
use Rattle.lab_streams.proofs.SendableLemmas.{every_emission_is_sendable}
use Rattle.lab_streams.proofs.WorldLemmas.{right_run}

-- the ends of a world that is legal and honest
ends_are_faithful : (w : ℕ) (events : List Event) → IsRight w events → AreEndsFaithful w events
ends_are_faithful w events r =
    record {
      legal = r.legal;
      honest = r.honest;
      once = λ side. each_number_is_taken_once w (history_of side events) (r.legal side);
      prefix = λ side. released_is_prefix w events side r.legal r.honest;
      whole = λ side. finished_is_whole w events side r.legal r.honest;
      within = λ n. nothing_is_past_the_end w events n r.legal r.honest;
      finished = λ side. finished_is_once w (history_of side events) (r.legal side);
    }

-- the streams of what is carried
streams_are_faithful : (w : ℕ) (past : Past) → IsCarried w past → AreStreamsFaithful past
streams_are_faithful w past is =
    record {
      legal = is.legal;
      linked = is.linked;
      fed = is.fed;
      carried = λ side. arrived_is_given w past side is.right (is.put (other side));
      all = λ side same few. ap bytes_of same ∙ (is.put (other side)).whole few;
      delivered = λ side sid. in_order side sid;
      ended = λ side sid told. whole side sid told;
      over = λ side sid.
          end_law (is_client side) (mux_history side past) (is.legal (is_client side)) sid;
    }
  where
    in_order : (side : Side) (sid : ℕ) → Prefix
        (delivered sid (acts_at side past))
        (written sid
        (acts_at (other side) past))
    in_order Plugin sid = pair_law past.calls is.legal is.linked (is_client Plugin) sid
    in_order Agent sid = pair_law past.calls is.legal is.linked (is_client Agent) sid

    whole : (side : Side) (sid : ℕ)
        → finished sid (acts_at side past)
        ≡ true
        → IsWhole sid
        (acts_at side past)
        (acts_at (other side) past)
    whole Plugin sid = pair_end_law past.calls is.legal is.linked (is_client Plugin) sid
    whole Agent sid = pair_end_law past.calls is.legal is.linked (is_client Agent) sid

-- more calls of the ends are more at each
history-then : (side : Side) (a b : List Event)
    → history_of side (a ++ b) ≡ history_of side a ++ history_of side b
unfolding history_of
history-then side a b = filter_map-append (λ (x : Event). entry_at side x.side x.entry) a b

-- after the last item of a direction nothing is put in there, whatever lines follow
puts_end : (w : ℕ) (commands rest : List StreamCommand) (side : Side)
    → let h = history_of side (past_of (stream_run w commands)).events in
    has_ended h ≡ true
    → put_items (history_of side (past_of (stream_run w (commands ++ rest))).events) ≡ put_items h
puts_end w commands rest side over =
    let steps = stream_run w commands in
    let h = history_of side (past_of steps).events in
    let front = run-front w commands rest in
    let more = history_of side (events_in front.0) in
    let joined : history_of side (past_of (stream_run w (commands ++ rest))).events ≡ h ++ more =
    ap (λ (s : List StreamStep). history_of side (past_of s).events) front.1
    ∙ ap (λ (p : Past). history_of side p.events) (past_of-append steps front.0)
    ∙ history-then side (past_of steps).events (events_in front.0) in
    let legal : IsLegal w (h ++ more) =
    subst (IsLegal w) joined ((right_run w (commands ++ rest)).legal side) in
    ap put_items joined
    ∙ ap (λ (l : List PutMessage). map (λ m. m.item) l)
    (nothing_follows_the_last w h more legal over)

pub every_script_is_faithful : (w : ℕ) (commands : List StreamCommand)
    → All IsStreamCommand commands
    → IsStreamFaithful w commands
every_script_is_faithful w commands ranges =
    let is = carried_run w commands ranges in
    record {
      ends = ends_are_faithful w (past_of (stream_run w commands)).events is.right;
      streams = streams_are_faithful w (past_of (stream_run w commands)) is;
      ended = puts_end w commands;
      begins = λ rest. let more = run-front w commands rest in (more.0, sym more.1);
    }

-- ---- settles

-- the steps of plain lines one after the other, with their feeds
fed_steps_at : (w : ℕ) (past : Past) (now line : ℕ) (lines : List Command)
    → fed_steps past (steps_at w past.events now line lines)
    ≡ stream_steps_at w past now line (map StreamCommand.Plain lines)
fed_steps_at w past now line [] = fed_steps-none past
fed_steps_at w past now line (c ∷ lines) =
    let steps = steps_of w past.events now line c in
    let here = fed_steps past steps in
    fed_steps-append past steps (steps_at w (past.events ++ events_of steps) now line lines)
    ∙ ap
    (λ (v : List Event). here ++ fed_steps (after past here) (steps_at w v now line lines))
    (sym (past_then-events past steps))
    ∙ ap (λ (l : List StreamStep). here ++ l) (fed_steps_at w (after past here) now line lines)

pub every_settle_exchanges_all : (w : ℕ) (commands : List StreamCommand)
    → IsStreamSettled w commands
every_settle_exchanges_all w commands =
    record {
      exchange = λ now line.
          subst IsExchange (sym (events_in-fed_steps past (settle_steps w before now line)))
          (settle_is_exchange w before now line right);
      lines = λ now line.
          let has = settle_has_lines w before now line right in (
            has.0,
            has.1,
            has.2,
            has.3,
            ap (fed_steps past) has.4
                ∙ fed_steps_at w past now line (settle_lines has.0 has.1),
          );
      released = λ unclosed side.
          let all : released_items (history_of (other side) (before ++ xs))
          ≡ put_items (history_of side (before ++ xs)) =
          exchange_releases_all w before xs side
          (IsRight-settle w before now line right).legal right.honest
          (settle_is_exchange w before now line right)
          (λ end. subst (λ (v : List Event). is_closed (history_of end v) ≡ false) later
          (unclosed end)) in
          subst
          (λ (v : List Event). released_items (history_of (other side) v)
          ≡ put_items (history_of side v))
          (sym later) all;
    }
  where
    past : Past
    past = past_of (stream_run w commands)

    before : List Event
    before = past.events

    right : IsRight w before
    right = right_run w commands

    now : ℕ
    now = (stream_progress w commands).now

    line : ℕ
    line = length commands + 1

    xs : List Event
    xs = events_of (settle_steps w before now line)

    later : (past_of (stream_run w (commands ++ settle_line ∷ []))).events ≡ before ++ xs
    later =
        ap (λ (s : List StreamStep). (past_of s).events)
        (run-push w commands settle_line now line refl refl)
        ∙ ap (λ (p : Past). p.events)
        (past_of-append (stream_run w commands) (fed_steps past (settle_steps w before now line)))
        ∙ past_then-events past (settle_steps w before now line)

pub stream_laws : StreamLaws
stream_laws =
    record {
      faithful = every_script_is_faithful;
      settled = every_settle_exchanges_all;
      sendable = every_emission_is_sendable;
    }
