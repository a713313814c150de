use Rattle.std.proofs.Common.{inr}
use Rattle.session_audit.proofs.judge.replayed.Goals as goal

pub returns-in-Ok : goal.returns-in-Ok
returns-in-Ok c bytes read = inr (c.verdict_of.ensures c.args.window bytes read c.in-Ok.ensures)
