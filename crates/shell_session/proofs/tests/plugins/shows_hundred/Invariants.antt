use Rattle.session_feeds.specs.Sessions.{MayCall}
use Rattle.shell_session.proofs.tests.plugins.shows_hundred.Given as goal

abbrev pub invariant-loop-count : goal.invariant-loop-count
invariant-loop-count l = MayCall l.plugin.begun l.plugin.refused
