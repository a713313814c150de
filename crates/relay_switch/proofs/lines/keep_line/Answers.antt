use Rattle.std.proofs.Common.{sym, ◌∙◌}
use Rattle.relay_switch.proofs.LineLemmas.{line-none, line-put, none-of}
use Rattle.relay_switch.proofs.lines.keep_line.Goals as goal

pub returns-clause-same : goal.returns-clause-same
returns-clause-same c s =
    let lines = c.args.lines.now.entries in
    let none =
    line-none lines c.args.conn (none-of _ (sym c.contains_key.ensures ∙ c.if-contains_key.false)) in
    line-put lines c.args.conn s c.insert.new.self.entries c.new.result (c.new.ensures ∙ sym none)
    (c.in_ok-insert.ensures.updates.0 s)
