use Rattle.channel_core.specs.declared.call.EndAnswer.TheVariants as EndAnswer
use Rattle.channel_core.specs.declared.call.EndCall.TheVariants as EndCall
use Rattle.channel_core.specs.declared.answer.Pull.TheVariants as Pull
use Rattle.session_audit.proofs.EndLemmas.{idle_told, made, pull_told}
use Rattle.session_audit.proofs.replay.pull.Goals as goal

pub returns-in-Emit-clause-made : goal.returns-in-Emit-clause-made
returns-in-Emit-clause-made c =
    made c.args.end.now c.pull.new.self (EndCall.Pull c.args.now)
    (EndAnswer.Pull (Pull.Emit c.in-Emit.given)) c.in-Emit.ensures.follows (λ is. cc)

pub returns-in-Emit-clause-told : goal.returns-in-Emit-clause-told
returns-in-Emit-clause-told c w h at =
    pull_told w h c.args.end.now c.pull.new.self c.args.now c.in-Emit.given c.args.out.now
    c.is_same.result c.in-Emit.ensures.follows at c.is_same.ensures

pub returns-in-Idle-clause-made : goal.returns-in-Idle-clause-made
returns-in-Idle-clause-made c =
    made c.args.end.now c.pull.new.self (EndCall.Pull c.args.now)
    (EndAnswer.Pull Pull.Idle) c.in-Idle.ensures.follows (λ is. cc)

pub returns-in-Idle-clause-told : goal.returns-in-Idle-clause-told
returns-in-Idle-clause-told c w h at =
    idle_told w h c.args.end.now c.pull.new.self c.args.now c.args.out.now
    c.in-Idle.ensures.follows at
