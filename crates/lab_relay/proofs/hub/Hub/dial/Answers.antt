use Rattle.std.proofs.Common.{refl, ◌∙◌}
use Rattle.lab_relay.proofs.HubLemmas.{IsHub-agent, IsHub-plugin}
use Rattle.lab_relay.proofs.hub.Hub.dial.Goals as goal

pub returns-in-Plugin-clause-made : goal.returns-in-Plugin-clause-made
returns-in-Plugin-clause-made c es is =
    IsHub-plugin es c.args.side c.args.self.now _ c.len-conn.result c.in-Plugin.is
    (c.len-conn.ensures ∙ c.args.self.now.ends.ok.0) is c.in_ok-push.ensures.items refl refl

pub returns-in-Agent-clause-made : goal.returns-in-Agent-clause-made
returns-in-Agent-clause-made c es is =
    IsHub-agent es c.args.side c.args.self.now _ c.len-conn.result c.in-Agent.is
    (c.len-conn.ensures ∙ c.args.self.now.ends.ok.0) is c.in_ok-push.ensures.items refl refl
