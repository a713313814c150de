use Rattle.std.proofs.Common.{rules, ◌≡◌, ◌∙◌, ap₂, codes, false}
use Rattle.clap.specs.Words.{rule_of, with_rule}
use Rattle.program_words.specs.Commands.{flag, option, required}
use Rattle.program_words.proofs.CommandLemmas.{required_is, required_local}
use Rattle.program_words.proofs.agent_words.agent_command.Goals as goal

pub returns : goal.returns
returns c =
    let relay_is : rule_of c.required.result ≡ required (codes "relay") =
    required_is c.option-relay.result c.required.result _ c.required.ensures c.option-relay.ensures.rule in
    let relay_local : c.required.result.global ≡ false =
    required_local c.option-relay.result c.required.result c.required.ensures c.option-relay.ensures.local in
    let token_is : rule_of c.required-2.result ≡ required (codes "token") =
    required_is c.option-token.result c.required-2.result _ c.required-2.ensures c.option-token.ensures.rule in
    let token_local : c.required-2.result.global ≡ false =
    required_local c.option-token.result c.required-2.result c.required-2.ensures c.option-token.ensures.local in
    let shell_is : rule_of c.option-shell.result ≡ option (codes "shell") =
    c.option-shell.ensures.rule in
    let port_is : rule_of c.option-port.result ≡ option (codes "port") =
    c.option-port.ensures.rule in
    let mux_is : rule_of c.help-mux.result ≡ flag (codes "mux") = search rules in
    c.in_ok-command.ensures.shape (search rules)
    ∙ ap₂ with_rule (c.in_ok-arg-4.ensures.shape c.option-port.ensures.local
    ∙ ap₂ with_rule (c.in_ok-arg-3.ensures.shape c.option-shell.ensures.local
    ∙ ap₂ with_rule (c.in_ok-arg-2.ensures.shape token_local
    ∙ ap₂ with_rule (c.in_ok-arg.ensures.shape relay_local
    ∙ ap₂ with_rule c.program.ensures relay_is) token_is) shell_is) port_is) mux_is
