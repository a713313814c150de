-- What an end shows of itself is how much was put in and released, so two ends that did all have the
-- totals of their replay.
use Rattle.std.proofs.Common.{◌≡◌, ℕ, ◌+◌, ◌-◌, ◌<◌, ◌≤◌, zero, suc, true, false, Option, Some, List, inr, length, min, refl, slice_get, sym, ap, ◌∙◌, arith}
use Rattle.std.specs.List.{filter_map, range_with_len}
use Rattle.std.proofs.lemmas.Bool.{false_from_ne_true}
use Rattle.std.proofs.lemmas.List.{length-map}
use Rattle.std.proofs.lemmas.Option.{slice_get_within}
use Rattle.chan_values.specs.declared.item.Item.{Item}
use Rattle.chan_values.specs.declared.side.Side.{Side}
use Rattle.chan_values.specs.declared.side.Side.TheVariants.{Plugin, Agent}
use Rattle.channel_core.specs.declared.answer.Look.{Look}
use Rattle.channel_core.specs.declared.call.EndAnswer.{EndAnswer}
use Rattle.channel_core.specs.declared.call.EndCall.{EndCall}
use Rattle.channel_core.specs.Call.{Entry}
use Rattle.channel_core.specs.History.{next_in_order, put_items, put_messages, released_items, taken_items}
use Rattle.channel_core.specs.Legal.{IsLegal, look_at}
use Rattle.channel_core.specs.Numbers.{numbers_of}
use Rattle.channel_core.specs.Stands.{EndState}
use Rattle.channel_core.proofs.DeliveryLemmas.{released_is_in_order}
use Rattle.channel_core.proofs.ItemLemmas.{item_with-there}
use Rattle.channel_core.proofs.NumberLemmas.{least_absent-is}
use Rattle.session_audit.specs.declared.act.Act.{Act}
use Rattle.session_audit.specs.declared.reading.Saying.{Saying}
use Rattle.session_audit.specs.declared.verdict.Audit.{Audit}
use Rattle.session_audit.specs.declared.verdict.Totals.{Totals}
use Rattle.session_audit.specs.Ends.{IsAt}
use Rattle.session_audit.specs.Halting.{BothPlayed, Halts}
use Rattle.session_audit.specs.Judging.{IsTotals, LooksSo, why_of}
use Rattle.session_audit.specs.Moves.{Move, acts_at, replay_world}
use Rattle.session_audit.specs.Playing.{IsPlayed, SeatState, acts_before}
use Rattle.session_audit.specs.Readings.{IsRead}
use Rattle.session_audit.specs.Replay.{replay}
use Rattle.session_audit.specs.Seats.{IsSeat}
use Rattle.session_audit.specs.Verdict.{IsVerdict, totals_of}
use Rattle.session_audit.proofs.EndLemmas.{answered}
use Rattle.session_audit.proofs.JudgeLemmas.{all_shown, place_of}
use Rattle.session_audit.proofs.SayingLemmas.{one_each}
use Rattle.session_audit.proofs.LeftLemmas.{totals_from, totals_told}
use Rattle.session_audit.proofs.LeastLemmas.{least_left}

-- a function that gives something at each number of a range gives as much as the range is long
length-each : {Y : Type 0} (f : ℕ → Option Y) (from n : ℕ)
    → ((k : ℕ) → from ≤ k → k < from + n → (y : Y) × (f k ≡ Some y))
    → length (filter_map f (range_with_len from n)) ≡ n
length-each f from zero there = refl
length-each f from (suc n) there =
    let first = there from (omega arith) (omega arith) in
    rw first.1
    (ap (λ (k : ℕ). suc k)
    (length-each f (from + 1) n (λ k low high. there k (omega arith) (omega arith))))

-- as many items are released as numbers were taken without a gap
length-released : (w : ℕ) (h : List Entry) → IsLegal w h
    → length (released_items h) ≡ next_in_order h
length-released w h legal =
    let taken = taken_items h in
    let next = next_in_order h in
    ap (λ (xs : List Item). length xs) (released_is_in_order w h legal)
    ∙ length-each _ 0 (next - 0)
    (λ k low high.
    let below : k < next = omega (arith, high) in
    item_with-there taken k ((least_absent-is (numbers_of taken)).1 k below))
    ∙ omega arith

-- what a look tells
looked : (w : ℕ) (h : List Entry) (end : EndState) (look : Look)
    → LooksSo end look
    → IsAt w end h
    → look ≡ look_at w h
looked w h end look shows at =
    let is = answered w h end end EndCall.Look (EndAnswer.Look look) shows (λ never. never) at in
    cc

put_by : (w : ℕ) (h : List Entry) (end : EndState) (look : Look)
    → LooksSo end look
    → IsAt w end h
    → look.next ≡ length (put_items h)
unfolding look_at
put_by w h end look shows at =
    ap (λ (l : Look). l.next) (looked w h end look shows at)
    ∙ sym (length-map (put_messages h) (λ m. m.item))

released_by : (w : ℕ) (h : List Entry) (end : EndState) (look : Look)
    → LooksSo end look
    → IsAt w end h
    → look.expected ≡ length (released_items h)
unfolding look_at
released_by w h end look shows at =
    ap (λ (l : Look). l.expected) (looked w h end look shows at)
    ∙ sym (length-released w h at.0)

-- ---- ends that did all

-- an end that came to the end is not blocked, and stands
stands_at_end : (w : ℕ) (side : Side) (sayings : List Saying) (seat : SeatState)
    → IsPlayed w side sayings seat
    → length sayings ≤ seat.next
    → IsSeat w seat.end (acts_before side sayings seat.next)
stands_at_end w side sayings seat x past =
    x.stands
    (free (λ stuck.
    let blocked = x.blocked stuck in
    let within = slice_get_within sayings seat.next blocked.0 blocked.1 in
    omega (arith, within, past)))
  where
    free : (seat.stuck ≡ true → ⊥) → seat.stuck ≡ false
    free refuses = false_from_ne_true seat.stuck refuses

pub totals_are : (w : ℕ) (sayings : List Saying) (moves : List Move) (plugin agent : SeatState)
    (totals : Totals)
    → BothPlayed w sayings moves plugin agent
    → ((side : Side) → length sayings ≤ place_of plugin agent side)
    → IsTotals plugin.end agent.end totals
    → totals ≡ totals_of (replay_world w moves)
totals_are w sayings moves plugin agent totals b past is =
    let p = (stands_at_end w Plugin sayings plugin b.plugin_played (past Plugin)).stands in
    let a = (stands_at_end w Agent sayings agent b.agent_played (past Agent)).stands in
    let h = replay w (acts_before Plugin sayings plugin.next) in
    let g = replay w (acts_before Agent sayings agent.next) in
    is.are
    ∙ same is.plugin_look.next is.agent_look.next is.agent_look.expected is.plugin_look.expected h g
    (put_by w h plugin.end is.plugin_look is.plugin_shows p)
    (put_by w g agent.end is.agent_look is.agent_shows a)
    (released_by w g agent.end is.agent_look is.agent_shows a)
    (released_by w h plugin.end is.plugin_look is.plugin_shows p)
    ∙ ap (λ (l : List Act). totals_from (replay w l) g) (sym b.plugin_done)
    ∙ ap (λ (l : List Act). totals_from (replay w (acts_at Plugin moves)) (replay w l))
    (sym b.agent_done)
    ∙ sym (totals_told w moves)
  where
    same : (sent_p sent_a released_a released_p : ℕ) (h g : List Entry)
        → sent_p ≡ length (put_items h)
        → sent_a ≡ length (put_items g)
        → released_a ≡ length (released_items g)
        → released_p ≡ length (released_items h)
        → record {
          sent_p = sent_p;
          sent_a = sent_a;
          released_a = released_a;
          released_p = released_p;
        }
        ≡ totals_from h g
    same sent_p sent_a released_a released_p h g p a ra rp = rw (p, a, ra, rp) refl

-- where both ends came to the end, the journal is accepted
pub accepted_verdict : (w : ℕ) (bytes : List ℕ) (sayings : List Saying) (plugin agent : SeatState)
    (totals : Totals)
    → IsRead bytes sayings
    → Halts w sayings plugin agent
    → ((side : Side) → length sayings ≤ place_of plugin agent side)
    → IsTotals plugin.end agent.end totals
    → IsVerdict w bytes (Audit.Yes totals)
accepted_verdict w bytes sayings plugin agent totals read halts past is = (
  read.records,
  read.split,
  read.formed,
  record {
    moves = halts.0;
    run = halts.1.run;
    shown = all_shown w sayings read.records halts.0 plugin agent read.said halts.1 past;
    totals_are = totals_are w sayings halts.0 plugin agent totals halts.1 past is;
  },
)

-- where the least place has a saying, it is left
pub left_verdict : (w : ℕ) (bytes : List ℕ) (sayings : List Saying) (plugin agent : SeatState)
    (s : Saying)
    → IsRead bytes sayings
    → Halts w sayings plugin agent
    → slice_get sayings (min plugin.next agent.next) ≡ Some s
    → IsVerdict w bytes (Audit.Bad s.at (why_of s.act))
left_verdict w bytes sayings plugin agent s read halts is =
    inr (
      read.records,
      read.split,
      read.formed,
      λ side. one_each side 0 sayings read.records read.said,
      least_left w sayings read.records halts.0 plugin agent s read.said halts.1 halts.2 is,
    )
