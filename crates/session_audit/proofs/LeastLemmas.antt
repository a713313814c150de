-- The first of the places at which two ends halted.
use Rattle.std.proofs.Common.{◌≡◌, ℕ, ◌≤◌, zero, suc, Some, None, List, ◌⊎◌, inl, inr, ⊎_elim, sym, ap, ◌∙◌, arith, length, min, slice_get}
use Rattle.std.proofs.lemmas.Option.{none-some}
use Rattle.chan_values.specs.declared.side.Side.{Side}
use Rattle.chan_values.specs.declared.side.Side.TheVariants.{Plugin, Agent}
use Rattle.session_audit.specs.declared.reading.Saying.{Saying}
use Rattle.session_audit.specs.Halting.{BothHeld, BothPlayed}
use Rattle.session_audit.specs.Judging.{why_of}
use Rattle.session_audit.specs.Moves.{Move}
use Rattle.session_audit.specs.Playing.{SeatState}
use Rattle.session_audit.specs.Readings.{AreSaid}
use Rattle.session_audit.specs.Verdict.{IsLeft}
use Rattle.session_audit.proofs.JudgeLemmas.{at_place, left_of, place_of}

-- ---- by the least place

-- the saying at the least place of both is left
pub least_left : (w : ℕ) (sayings : List Saying) (records : List (List ℕ)) (moves : List Move)
    (plugin agent : SeatState) (s : Saying)
    → AreSaid 0 sayings records
    → BothPlayed w sayings moves plugin agent
    → BothHeld w sayings moves plugin agent
    → slice_get sayings (min plugin.next agent.next) ≡ Some s
    → IsLeft w records s.at (why_of s.act)
least_left w sayings records moves plugin agent s are b held is =
    ⊎_elim
    (λ (le : plugin.next ≤ agent.next).
    let least : min plugin.next agent.next ≡ plugin.next = omega (arith, le) in
    left_of w sayings records moves plugin agent Plugin s are b held le
    (ap (λ (n : ℕ). slice_get sayings n) (sym least) ∙ is))
    (λ (le : agent.next ≤ plugin.next).
    let least : min plugin.next agent.next ≡ agent.next = omega (arith, le) in
    left_of w sayings records moves plugin agent Agent s are b held le
    (ap (λ (n : ℕ). slice_get sayings n) (sym least) ∙ is))
    (either plugin.next agent.next)
  where
    either : (a b : ℕ) → (a ≤ b) ⊎ (b ≤ a)
    either zero b = inl (omega arith)
    either (suc a) zero = inr (omega arith)
    either (suc a) (suc b) =
        ⊎_elim (λ le. inl (omega (arith, le))) (λ le. inr (omega (arith, le))) (either a b)

-- where there is none, both ends came to the end
pub least_past : (sayings : List Saying) (plugin agent : SeatState)
    → slice_get sayings (min plugin.next agent.next) ≡ None
    → (side : Side)
    → length sayings ≤ place_of plugin agent side
least_past sayings plugin agent none side =
    ⊎_elim
    (λ (there : (s : Saying) × (slice_get sayings (min plugin.next agent.next) ≡ Some s)).
    absurd (none-some there.0 (sym none ∙ there.1)))
    (λ (past : length sayings ≤ min plugin.next agent.next). at side past)
    (at_place sayings (min plugin.next agent.next))
  where
    at : (side : Side)
        → length sayings ≤ min plugin.next agent.next
        → length sayings ≤ place_of plugin agent side
    at Plugin past = omega (arith, past)
    at Agent past = omega (arith, past)
