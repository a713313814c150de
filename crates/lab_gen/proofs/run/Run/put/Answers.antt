use Rattle.std.proofs.Common.{OnOk, sym, subst}
use Rattle.chan_values.specs.declared.item.Item.{Item}
use Rattle.lab_script.specs.Command.{IsAction}
use Rattle.lab_script.specs.declared.command.Action.{Action}
use Rattle.lab_script.specs.declared.command.Command.{Command}
use Rattle.lab_run.specs.Run.{progress_after}
use Rattle.lab_gen.specs.Ends.{IsAt}
use Rattle.lab_gen.proofs.RunLemmas.{IsAction-put}
use Rattle.lab_gen.proofs.run.Run.put.Goals as goal

pub line-requires-clause-asked : goal.line-requires-clause-asked
line-requires-clause-asked c =
    let P : Item → Type 0 = λ item. IsAction (Action.Put item) in
    subst P (sym c.in_ok-item.ensures) (IsAction-put c.args.round)

pub returns-clause-made : goal.returns-clause-made
returns-clause-made c w p is =
    let P : Item → Type 0 =
    λ item.
    OnOk c.line.result
    (IsAt w (progress_after w p (Command.On c.args.side (Action.Put item))) c.line.new.self) in
    subst P c.in_ok-item.ensures (c.line.ensures.made w p is)
