use Rattle.std.proofs.Common.{refl}
use Rattle.std.proofs.lemmas.Bool.{both_ways}
use Rattle.session_audit.proofs.LookLemmas.{advanced}
use Rattle.session_audit.proofs.step.advance.Goals as goal

pub returns-then-not-was_given : goal.returns-then-not-was_given
returns-then-not-was_given c acts others a b mine theirs one = (
  λ heard.
      both_ways c.was_given.result c.if-not-was_given.true
      ((c.was_given.ensures others b theirs one).1 heard),
  refl,
)

pub returns-then-shown : goal.returns-then-shown
returns-then-shown c acts others a b mine theirs one w seat =
    let told = advanced w c.args.end.now c.replay.new.end acts c.args.act.now
    c.goes_again-again.result c.in_ok-shown.shown c.in_ok-shown.ensures
    (λ h sent. c.goes_again-again.ensures c.args.sayings.now acts a h mine sent) seat in
    let can = told.0.0 c.if-shown.true in
    (can, (c.was_given.ensures others b theirs one).0 c.if-not-was_given.false, told.1 can)

pub returns-else-shown : goal.returns-else-shown
returns-else-shown c acts others a b mine theirs one w seat can =
    let told = advanced w c.args.end.now c.replay.new.end acts c.args.act.now
    c.goes_again-again.result c.in_ok-shown.shown c.in_ok-shown.ensures
    (λ h sent. c.goes_again-again.ensures c.args.sayings.now acts a h mine sent) seat in
    both_ways c.in_ok-shown.shown c.if-shown.false (told.0.1 can)
