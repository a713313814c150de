use Rattle.std.proofs.Common.{◌∙◌, Some, None, sym, refl, ap, subst}
use Rattle.std.specs.Prelude.{if◌then◌else◌}
use Rattle.session_run.specs.Adds.{AddsCalls}
use Rattle.session_run.proofs.AddsLemmas.{AddsCalls-then}
use Rattle.session_workers.specs.Writing.{CountsFailures, IdleTurn}
use Rattle.session_workers.proofs.WritingLemmas.{Departs-settle, Departs-shut}
use Rattle.session_workers.proofs.link_writer.LinkWriter.idle.Goals as goal

pub returns-then-found : goal.returns-then-found
returns-then-found g c =
    let i : IdleTurn = record {
      count = c.count-first.result;
      look = c.look-found.result;
      again = Some c.count-again.result;
      text = c.send_end-text.result;
    } in
    let sent = c.send_end-text.ensures in (
      i,
      record {
        may = record { closed = sym c.if-found.true; due = sent.due ∙ c.is_text_due-due.ensures };
        side = refl;
        end = c.look-found.ensures;
        shelf = AddsCalls-then _ _ _ _ _ c.count-first.ensures c.count-again.ensures;
        sends = Departs-shut _ _ _ _ sent.sends c.shut.ensures.shuts;
        counted = subst (CountsFailures _ _) (sym c.shut.ensures.steady) sent.counted;
        told = refl;
        over = refl;
        starved = c.answer_of.ensures;
      },
    )

pub returns : goal.returns
returns g c =
    let i : IdleTurn = record {
      count = c.count-first.result;
      look = c.look-found.result;
      again = None;
      text = c.send_end-text-2.result;
    } in
    let sent = c.send_end-text-2.ensures in
    let kept = c.settle.ensures.kept in
    let due = c.is_text_due-due-2.ensures in
    let openings = c.count-first.result.openings in (
      i,
      record {
        may = record { closed = sym c.if-found.false; due = sent.due ∙ due };
        side = ap (λ s. s.side) kept;
        end = subst (AddsCalls _ _) (sym (ap (λ s. s.end) kept)) c.look-found.ensures;
        shelf = subst (AddsCalls _ _) (sym (ap (λ s. s.shelf) kept)) c.count-first.ensures;
        sends = Departs-settle _ _ _ _ _ sent.sends c.settle.ensures.shut;
        counted = subst (CountsFailures _ _) (sym c.settle.ensures.counted) sent.counted;
        told =
            ap (λ s. s.told) kept
            ∙ c.told_if-self.ensures
            ∙ ap (λ b. if b then openings else c.args.self.now.told) due;
        over = ap (λ s. s.over) kept;
        starved = c.settle.ensures.answer;
      },
    )
