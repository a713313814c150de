use Rattle.std.proofs.Common.{◌≡◌, ◌++◌, ap, ◌∙◌}
use Rattle.chan_values.specs.declared.side.Side.TheVariants.{Plugin, Agent}
use Rattle.session_register.specs.TokenTexts.{role_part}
use Rattle.session_register.proofs.TokenLemmas.{before_end, one_role}
use Rattle.session_register.proofs.token_value.split_role.Goals as goal

plugin_is : (c : goal.In-Some) → c.args.front.now ≡ c.in-Some.name.now ++ role_part Plugin
plugin_is c =
    let cases = c.in-Some.ensures.cases in
    before_end c.args.front.now c.role_part.result.now c.in-Some.name.now cases.0 cases.1
    ∙ ap (λ end. c.in-Some.name.now ++ end) c.role_part.ensures

agent_is : (c : goal.In-Some-strip_suffix)
    → c.args.front.now ≡ c.in-Some-strip_suffix.name.now ++ role_part Agent
agent_is c =
    let cases = c.in-Some-strip_suffix.ensures.cases in
    before_end c.args.front.now c.role_part-in_default.result.now
    c.in-Some-strip_suffix.name.now cases.0 cases.1
    ∙ ap (λ end. c.in-Some-strip_suffix.name.now ++ end) c.role_part-in_default.ensures

pub returns-in-Some-clause-value : goal.returns-in-Some-clause-value
returns-in-Some-clause-value c = plugin_is c

pub returns-in-Some-clause-found : goal.returns-in-Some-clause-found
returns-in-Some-clause-found c = λ name role is.
    one_role c.args.front.now c.in-Some.name.now name Plugin role (plugin_is c) is

pub returns-in-Some-strip_suffix-clause-value : goal.returns-in-Some-strip_suffix-clause-value
returns-in-Some-strip_suffix-clause-value c = agent_is c
