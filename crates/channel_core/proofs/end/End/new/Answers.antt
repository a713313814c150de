use Rattle.std.proofs.Common.{refl}
use Rattle.channel_core.proofs.StartLemmas.{stands_nil}
use Rattle.channel_core.proofs.end.End.new.Goals as goal

pub returns : goal.returns
returns c = stands_nil c.args.window _
    (rw (
      c.in_ok-new.ensures,
      c.in_ok-new-2.ensures,
      c.new-3.ensures,
      c.in_ok-new-3.ensures,
    ) refl)
