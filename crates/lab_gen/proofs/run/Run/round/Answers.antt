use Rattle.std.proofs.Common.{◌*◌, OnOk, subst}
use Rattle.chan_values.specs.declared.side.Side.{Side}
use Rattle.lab_script.specs.declared.command.Action.{Action}
use Rattle.lab_script.specs.declared.command.Command.{Command}
use Rattle.lab_script.specs.declared.word.Which.{Which}
use Rattle.lab_run.specs.Run.{progress_after}
use Rattle.lab_gen.specs.Ends.{IsAt}
use Rattle.lab_gen.proofs.run.Run.round.Goals as goal

pub returns-in-Put-clause-made : goal.returns-in-Put-clause-made
returns-in-Put-clause-made c w p is =
    let one = progress_after w p (Command.At (100 * c.args.round)) in
    rw c.in-Put.is (c.put.ensures.made w one (c.at.ensures.made w p is))

pub returns-in_ok-line-in-Send-clause-made : goal.returns-in_ok-line-in-Send-clause-made
returns-in_ok-line-in-Send-clause-made c w p is =
    let one = progress_after w p (Command.At (100 * c.args.round)) in
    let two = progress_after w one (Command.On c.in-Send.side Action.Pull) in
    let made_one = c.at.ensures.made w p is in
    let made_two = c.in_ok-line-in-Send.ensures.made w one made_one in
    let P : Side → Type 0 =
    λ z.
    OnOk c.line-in-Send.result
    (IsAt w (progress_after w two (Command.On z (Action.Hear Which.Last))) c.line-in-Send.new.self) in
    rw c.in-Send.is (subst P c.other.ensures (c.line-in-Send.ensures.made w two made_two))

pub returns-in_ok-line-in-Lose-clause-made : goal.returns-in_ok-line-in-Lose-clause-made
returns-in_ok-line-in-Lose-clause-made c w p is =
    let one = progress_after w p (Command.At (100 * c.args.round)) in
    let two = progress_after w one (Command.On c.in-Lose.side Action.Pull) in
    let made_one = c.at.ensures.made w p is in
    let made_two = c.in_ok-line-in-Lose.ensures.made w one made_one in
    rw c.in-Lose.is (c.line-in-Lose-2.ensures.made w two made_two)

pub returns-in-Reconnect-clause-made : goal.returns-in-Reconnect-clause-made
returns-in-Reconnect-clause-made c w p is =
    let one = progress_after w p (Command.At (100 * c.args.round)) in
    rw c.in-Reconnect.is (c.reconnect.ensures.made w c.args.round one (c.at.ensures.made w p is))
