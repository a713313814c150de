use Rattle.std.proofs.Common.{ℕ, ◌+◌, ◌-◌, List, arith, drop, length, length-drop, subst, sym}
use Rattle.std.proofs.lemmas.List.{take_all}
use Rattle.session_audit.specs.declared.reading.Saying.{Saying}
use Rattle.session_audit.specs.Readings.{IsFront, IsReadTo}
use Rattle.session_audit.proofs.ReadLemmas.{read_all, read_more, read_nothing, said_actable}
use Rattle.session_audit.proofs.reading.read_journal.Goals as goal

pub loop-at-init : goal.loop-at-init
loop-at-init c = (omega arith, rw c.new-sayings.ensures.items (read_nothing c.args.bytes.now))

pub loop-at-preserved : goal.loop-at-preserved
loop-at-preserved c =
    let bytes = c.args.bytes.now in
    let at = c.loop-at.at in
    let front = subst
    (λ (l : List ℕ). IsFront l c.in_ok-front.front.length c.in_ok-front.front.saying)
    (take_all (length bytes - at) (drop at bytes) (omega (arith, length-drop at bytes)))
    c.in_ok-front.ensures.front in
    let within = front.within in
    let rest = length-drop at bytes in (
      omega (arith, within, rest),
      subst
          (λ (l : List Saying). IsReadTo bytes (at + c.in_ok-front.front.length) l)
          (sym c.in-Ok.ensures.items)
          (read_more bytes at c.in_ok-front.front.length c.loop-at.sayings.items
          c.in_ok-front.front.saying c.loop-at.invariant.1 c.in_ok-front.ensures.place front),
    )

pub returns-clause-read : goal.returns-clause-read
returns-clause-read c =
    read_all c.args.bytes.now c.loop-at.at c.loop-at.sayings.items c.loop-at.invariant.1 c.loop-at-test.false

pub returns-clause-actable : goal.returns-clause-actable
returns-clause-actable c =
    let x = c.loop-at.invariant.1 in
    said_actable 0 c.loop-at.sayings.items x.records x.said
