use Rattle.std.proofs.Common.{◌≡◌, ◌++◌, drop, take}
use Rattle.relay_switch.specs.Lines.{to_conn, without}
use Rattle.relay_switch.proofs.lines.index_to.Given as goal

-- none before the index is at the connection
abbrev pub invariant-loop-index : goal.invariant-loop-index
invariant-loop-index l = record {
  without :
      take l.index l.added ++ without l.conn (drop l.index l.added) ≡ without l.conn l.added;
  first : to_conn l.conn (drop l.index l.added) ≡ to_conn l.conn l.added;
}
