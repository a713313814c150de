use Rattle.std.proofs.Common.{◌≡◌, ◌∙◌, ap₂, codes, false}
use Rattle.clap.specs.Words.{rule_of, with_rule}
use Rattle.program_words.specs.Commands.{option, required}
use Rattle.program_words.proofs.CommandLemmas.{required_is, required_local}
use Rattle.program_words.proofs.relay_words.relay_command.Goals as goal

pub returns : goal.returns
returns c =
    let port_is : rule_of c.required.result ≡ required (codes "port") =
    required_is c.option-port.result c.required.result _ c.required.ensures c.option-port.ensures.rule in
    let port_local : c.required.result.global ≡ false =
    required_local c.option-port.result c.required.result c.required.ensures c.option-port.ensures.local in
    let sessions_is : rule_of c.required-2.result ≡ required (codes "sessions") =
    required_is c.option-sessions.result c.required-2.result _ c.required-2.ensures c.option-sessions.ensures.rule in
    let sessions_local : c.required-2.result.global ≡ false =
    required_local c.option-sessions.result c.required-2.result c.required-2.ensures c.option-sessions.ensures.local in
    let store_is : rule_of c.required-3.result ≡ required (codes "store") =
    required_is c.option-store.result c.required-3.result _ c.required-3.ensures c.option-store.ensures.rule in
    let store_local : c.required-3.result.global ≡ false =
    required_local c.option-store.result c.required-3.result c.required-3.ensures c.option-store.ensures.local in
    let drop_after_is : rule_of c.option-drop_after.result ≡ option (codes "drop-after") =
    c.option-drop_after.ensures.rule in
    c.in_ok-command.ensures.shape c.option-drop_after.ensures.local
    ∙ ap₂ with_rule (c.in_ok-arg-3.ensures.shape store_local
    ∙ ap₂ with_rule (c.in_ok-arg-2.ensures.shape sessions_local
    ∙ ap₂ with_rule (c.in_ok-arg.ensures.shape port_local
    ∙ ap₂ with_rule c.program.ensures port_is) sessions_is) store_is) drop_after_is
