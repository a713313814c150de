use Rattle.std.proofs.Common.{refl, subst}
use Rattle.channel_core.specs.Stands.{EndState}
use Rattle.session_audit.specs.Judging.{LooksSo}
use Rattle.session_audit.proofs.judge.totals_of.Goals as goal

pub returns : goal.returns
returns c =
    record {
      plugin_look = c.look-plugin.result;
      agent_look = c.look-agent.result;
      plugin_shows = subst
          (λ (e : EndState). LooksSo e c.look-plugin.result) c.end.ensures c.look-plugin.ensures;
      agent_shows = subst
          (λ (e : EndState). LooksSo e c.look-agent.result) c.end-2.ensures c.look-agent.ensures;
      are = refl;
    }
