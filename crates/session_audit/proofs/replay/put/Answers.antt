use Rattle.std.proofs.Common.{subst}
use Rattle.chan_values.specs.declared.item.Item.{Item}
use Rattle.channel_core.specs.declared.call.EndAnswer.TheVariants as EndAnswer
use Rattle.channel_core.specs.declared.call.EndCall.TheVariants as EndCall
use Rattle.channel_core.specs.Stands.{Follows}
use Rattle.session_audit.proofs.EndLemmas.{made}
use Rattle.session_audit.proofs.replay.put.Goals as goal

pub returns-then-sent : goal.returns-then-sent
returns-then-sent c =
    let sent = c.args.sent.now in
    let old = c.args.end.now in
    let new = c.put_last-put.new.self in
    let answer = EndAnswer.Put c.put_last-put.result in
    let follows : Follows old new (EndCall.PutLast sent.item sent.id sent.date) answer
    = subst
    (λ (item : Item). Follows old new (EndCall.PutLast item sent.id sent.date) answer)
    c.in_ok-item.ensures c.put_last-put.ensures in
    rw c.if-sent.true
    (made old new (EndCall.PutLast sent.item sent.id sent.date) answer follows (λ never. never))

pub returns-else-sent : goal.returns-else-sent
returns-else-sent c =
    let sent = c.args.sent.now in
    let old = c.args.end.now in
    let new = c.put-put.new.self in
    let answer = EndAnswer.Put c.put-put.result in
    let follows : Follows old new (EndCall.Put sent.item sent.id sent.date) answer
    = subst
    (λ (item : Item). Follows old new (EndCall.Put item sent.id sent.date) answer)
    c.in_ok-item.ensures c.put-put.ensures in
    rw c.if-sent.false
    (made old new (EndCall.Put sent.item sent.id sent.date) answer follows (λ never. never))
