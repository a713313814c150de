use Rattle.std.proofs.Common.{sym, ap, ◌∙◌, ◌∷◌, []}
use Rattle.session_run.specs.declared.parcel.Parcel.{Parcel}
use Rattle.shell_session.specs.Items.{joined}
use Rattle.shell_session.specs.Parcels.{arrived, is_end}
use Rattle.shell_session.proofs.InputLemmas.{took-finish, took-pass, took-write}
use Rattle.shell_session.proofs.ParcelLemmas.{bytes_of_item, bytes_of_other}
use Rattle.shell_session.proofs.running_child.RunningChild.hear.Goals as goal

pub returns-then-is_terminate-clause-input : goal.returns-then-is_terminate-clause-input
returns-then-is_terminate-clause-input g c = λ before took.
    took-finish c.args.parcel.now before c.args.self.now c.finish.new.self
    (ap is_end c.in-Arrived.is ∙ (sym c.is_terminate.ensures ∙ c.if-is_terminate.true))
    c.finish.ensures.finishes took

pub returns-then-item-eq-OUTPUT-clause-input : goal.returns-then-item-eq-OUTPUT-clause-input
returns-then-item-eq-OUTPUT-clause-input g c = λ before took.
    took-write c.args.parcel.now before c.as_slice.result.now c.args.self.now c.write.new.self
    (ap is_end c.in-Arrived.is ∙ (sym c.is_terminate.ensures ∙ c.if-is_terminate.false))
    (ap (λ (p : Parcel). joined 1 (arrived (p ∷ []))) c.in-Arrived.is
    ∙ (bytes_of_item 1 c.in-Arrived.item c.if-item-eq-OUTPUT.true ∙ sym c.as_slice.ensures))
    c.write.ensures.feeds took

pub returns-else-item-eq-OUTPUT-clause-input : goal.returns-else-item-eq-OUTPUT-clause-input
returns-else-item-eq-OUTPUT-clause-input g c = λ before took.
    took-pass c.args.parcel.now before c.args.self.now
    (ap is_end c.in-Arrived.is ∙ (sym c.is_terminate.ensures ∙ c.if-is_terminate.false))
    (ap (λ (p : Parcel). joined 1 (arrived (p ∷ []))) c.in-Arrived.is
    ∙ bytes_of_other 1 c.in-Arrived.item c.if-item-eq-OUTPUT.false) took

pub returns-in-Finished-clause-input : goal.returns-in-Finished-clause-input
returns-in-Finished-clause-input g c = λ before took.
    took-finish c.args.parcel.now before c.args.self.now c.finish-in-Finished.new.self
    (ap is_end c.in-Finished.is) c.finish-in-Finished.ensures.finishes took

pub returns-in-Over-clause-input : goal.returns-in-Over-clause-input
returns-in-Over-clause-input g c = λ before took.
    took-pass c.args.parcel.now before c.args.self.now
    (ap is_end c.in-Over.is) (ap (λ (p : Parcel). joined 1 (arrived (p ∷ []))) c.in-Over.is) took
