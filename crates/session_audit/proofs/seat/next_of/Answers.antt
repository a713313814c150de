use Rattle.std.proofs.Common.{◌≡◌, ⊎_elim, ap, sym, ◌∙◌}
use Rattle.std.proofs.lemmas.Bool.{both_ways}
use Rattle.chan_values.specs.Sides.{other}
use Rattle.channel_core.proofs.WorldLemmas.{cases_side}
use Rattle.session_audit.specs.declared.reading.Saying.{Saying}
use Rattle.session_audit.proofs.SaidLemmas.{passed_all, passed_here, passed_none, passed_one, slice_get-at}
use Rattle.session_audit.proofs.seat.next_of.Goals as goal

pub loop-at-init : goal.loop-at-init
loop-at-init c = passed_none c.args.side c.args.sayings.now c.args.from

pub loop-at-preserved : goal.loop-at-preserved
loop-at-preserved c =
    let it = c.index-sayings-at.result in
    let sayings = c.args.sayings.now in
    passed_one c.args.side sayings c.args.from c.loop-at.at it c.loop-at.invariant
    (slice_get-at sayings c.loop-at.at it c.loop-at-test.true c.index-sayings-at.is)
    (⊎_elim
    (λ (here : it.side ≡ c.args.side).
    absurd (both_ways c.is_same_side.result c.if-is_same_side.false (c.is_same_side.ensures.1
    (sym (ap (λ (s : Saying). s.side) c.index-sayings-at.is) ∙ here))))
    (λ (there : it.side ≡ other c.args.side). there)
    (cases_side c.args.side it.side))

pub returns-then-is_same_side : goal.returns-then-is_same_side
returns-then-is_same_side c =
    let it = c.index-sayings-at.result in
    let sayings = c.args.sayings.now in
    passed_here c.args.side sayings c.args.from c.loop-at.at it c.loop-at.invariant
    (slice_get-at sayings c.loop-at.at it c.loop-at-test.true c.index-sayings-at.is)
    (ap (λ (s : Saying). s.side) c.index-sayings-at.is
    ∙ c.is_same_side.ensures.0 c.if-is_same_side.true)

pub returns : goal.returns
returns c =
    passed_all c.args.side c.args.sayings.now c.args.from c.loop-at.at c.loop-at.invariant
    c.loop-at-test.false
