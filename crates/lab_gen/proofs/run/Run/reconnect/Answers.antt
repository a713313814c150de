use Rattle.chan_values.specs.declared.side.Side.TheVariants.{Plugin, Agent}
use Rattle.lab_script.specs.declared.command.Action.{Action}
use Rattle.lab_script.specs.declared.command.Command.{Command}
use Rattle.lab_run.specs.Run.{progress_after}
use Rattle.lab_gen.proofs.run.Run.reconnect.Goals as goal

pub returns-clause-made : goal.returns-clause-made
returns-clause-made c w round p is =
    let one = progress_after w p (Command.On Plugin Action.Lost) in
    let two = progress_after w one (Command.On Agent Action.Lost) in
    let three = progress_after w two (Command.On Plugin Action.Open) in
    let made_one = c.in_ok-line.ensures.made w p is in
    let made_two = c.in_ok-line-2.ensures.made w one made_one in
    let made_three = c.in_ok-line-3.ensures.made w two made_two in
    c.line-4.ensures.made w three made_three
