use Rattle.std.proofs.Common.{ap, ◌∙◌}
use Rattle.std.proofs.lemmas.Option.{slice_get_past}
use Rattle.session_audit.specs.declared.reading.Saying.{Saying}
use Rattle.session_audit.proofs.EndLemmas.{if_ok}
use Rattle.session_audit.proofs.PlayLemmas.{goes_blocked, goes_ended, goes_foreign}
use Rattle.session_audit.proofs.SaidLemmas.{slice_get-at}
use Rattle.session_audit.proofs.seat.Seat.go_on.Goals as goal
use Rattle.session_audit.proofs.TriedLemmas.{goes_tried}

pub returns-then-self : goal.returns-then-self
returns-then-self c =
    rw (← c.self.view_is)
    (goes_blocked c.args.side c.args.sayings.now _ c.args.other.now c.if-self.true)

pub returns-then-self-sayings : goal.returns-then-self-sayings
returns-then-self-sayings c =
    rw (← c.self.view_is)
    (goes_ended c.args.side c.args.sayings.now _ c.args.other.now c.next_of-self-inside.result
    c.if-self.false c.next_of-self-inside.ensures
    (slice_get_past c.args.sayings.now c.next_of-self-inside.result c.if-self-sayings.true))

pub returns-in-None : goal.returns-in-None
returns-in-None c =
    let to = c.next_of-self-inside.result in
    let it = c.index-sayings-self.result in
    rw (← c.self.view_is)
    (goes_foreign c.args.side c.args.sayings.now _ c.args.other.now to it c.if-self.false
    c.next_of-self-inside.ensures
    (slice_get-at c.args.sayings.now to it c.if-self-sayings.false c.index-sayings-self.is)
    (ap (λ (s : Saying). s.act) c.index-sayings-self.is ∙ c.in-None.is))

pub returns-in-Some : goal.returns-in-Some
returns-in-Some c =
    let to = c.next_of-self-inside.result in
    let it = c.index-sayings-self.result in
    rw (← c.self.view_is)
    (if_ok c.try_act.result _ _ c.try_act.ensures
    (λ done tries.
    goes_tried c.args.side c.args.sayings.now _ c.try_act.new.self c.args.other.now to it
    c.in-Some.act done c.if-self.false c.next_of-self-inside.ensures
    (slice_get-at c.args.sayings.now to it c.if-self-sayings.false c.index-sayings-self.is)
    (ap (λ (s : Saying). s.act) c.index-sayings-self.is ∙ c.in-Some.is) tries))
