use Rattle.std.proofs.Common.{◌≡◌, ◌∙◌, ap₂, codes, false}
use Rattle.clap.specs.Words.{rule_of, with_rule}
use Rattle.program_words.specs.Commands.{option, required}
use Rattle.program_words.proofs.CommandLemmas.{required_is, required_local}
use Rattle.program_words.proofs.plugin_words.plugin_command.Goals as goal

pub returns : goal.returns
returns c =
    let relay_is : rule_of c.required.result ≡ required (codes "relay") =
    required_is c.option-relay.result c.required.result _ c.required.ensures c.option-relay.ensures.rule in
    let relay_local : c.required.result.global ≡ false =
    required_local c.option-relay.result c.required.result c.required.ensures c.option-relay.ensures.local in
    let token_is : rule_of c.required-2.result ≡ required (codes "token") =
    required_is c.option-token.result c.required-2.result _ c.required-2.ensures c.option-token.ensures.rule in
    let token_local : c.required-2.result.global ≡ false =
    required_local c.option-token.result c.required-2.result c.required-2.ensures c.option-token.ensures.local in
    let listen_is : rule_of c.option-listen.result ≡ option (codes "listen") =
    c.option-listen.ensures.rule in
    let connections_is : rule_of c.option-connections.result ≡ option (codes "connections") =
    c.option-connections.ensures.rule in
    c.in_ok-command.ensures.shape c.option-connections.ensures.local
    ∙ ap₂ with_rule (c.in_ok-arg-3.ensures.shape c.option-listen.ensures.local
    ∙ ap₂ with_rule (c.in_ok-arg-2.ensures.shape token_local
    ∙ ap₂ with_rule (c.in_ok-arg.ensures.shape relay_local
    ∙ ap₂ with_rule c.program.ensures relay_is) token_is) listen_is) connections_is
