use Rattle.std.proofs.Common.{refl, subst}
use Rattle.channel_core.specs.declared.call.EndAnswer.TheVariants as EndAnswer
use Rattle.channel_core.specs.declared.call.EndCall.TheVariants as EndCall
use Rattle.channel_core.specs.declared.message.Incoming.{Incoming}
use Rattle.channel_core.specs.Stands.{Follows}
use Rattle.session_audit.specs.declared.act.Act.TheVariants as Act
use Rattle.session_audit.proofs.EndLemmas.{lone}
use Rattle.session_audit.proofs.replay.hear.Goals as goal

pub returns : goal.returns
returns c again =
    let heard = c.args.incoming.now in
    let answer = EndAnswer.Heard c.heard.result in
    let follows : Follows c.args.end.now c.heard.new.self (EndCall.Heard 0 heard) answer
    = subst
    (λ (incoming : Incoming). Follows c.args.end.now c.heard.new.self (EndCall.Heard 0 incoming) answer)
    c.in_ok-incoming.ensures c.heard.ensures in
    lone c.args.end.now c.heard.new.self (EndCall.Heard 0 heard) answer (Act.Hears heard) again
    follows (λ is. c.in_default.not-NoMemory heard cc) (λ h. refl) refl
