use Rattle.std.proofs.Common.{List, ap, arith, get_or, length, ◌∙◌}
use Rattle.std.proofs.lemmas.List.{length_push}
use Rattle.session_audit.specs.declared.marks.Mark.{Mark}
use Rattle.session_audit.specs.Marks.{MarksState, mark_of, no_mark}
use Rattle.session_audit.proofs.MarkLemmas.{get_or-pad}
use Rattle.session_audit.proofs.marks.Marks.reach.Goals as goal

pub loop-self-init : goal.loop-self-init
loop-self-init c = (
  ap (λ (s : MarksState). s.opened) c.self.view_is,
  λ k. ap (λ (s : MarksState). mark_of s k) c.self.view_is,
)

pub loop-self-preserved : goal.loop-self-preserved
loop-self-preserved c = (
  c.loop-self.invariant.0,
  λ k.
      ap (λ (l : List Mark). get_or l k no_mark) c.in_ok-push.ensures.items
      ∙ get_or-pad c.loop-self.self-inside.marks.items no_mark k
      ∙ c.loop-self.invariant.1 k,
)

pub loop-self-smaller : goal.loop-self-smaller
loop-self-smaller c =
    let longer = ap (λ (l : List Mark). length l) c.in_ok-push.ensures.items in
    let more = length_push c.loop-self.self-inside.marks.items no_mark in
    omega (arith, longer, more)

pub returns-clause-opened : goal.returns-clause-opened
returns-clause-opened c = c.loop-self.invariant.0

pub returns-clause-kept : goal.returns-clause-kept
returns-clause-kept c = c.loop-self.invariant.1
