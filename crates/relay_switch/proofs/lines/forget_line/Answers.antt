use Rattle.relay_switch.proofs.LineLemmas.{line-gone}
use Rattle.relay_switch.proofs.lines.forget_line.Goals as goal

pub returns : goal.returns
returns c s =
    line-gone c.args.lines.now.entries c.args.conn s c.remove.new.self.entries c.requires
    (c.remove.ensures.updates.0 s)
