use Rattle.std.proofs.Common.{◌≡◌, Some, None, List, [], ◌∷◌, not, drop, refl, sym, ◌∙◌, ap, slice_get}
use Rattle.std.proofs.lemmas.Bool.{or_left, or_right, not_from_false}
use Rattle.channel_core.proofs.PullLemmas.{pull_down_goes, pull_ack_goes, pull_paused_goes, pull_out_goes, pull_of}
use Rattle.channel_core.proofs.end.End.pull.Goals as goal
use Rattle.channel_core.proofs.end.End.pull.Goals.{then-self-via-then-self, then-self-via-else-self+then-not-self, in-Stream, in-Idle, in-NoMemory}

-- a list with this first element
first_is : {X : Type 0} (xs : List X) (x : X) → Some x ≡ slice_get xs 0 → xs ≡ x ∷ drop 1 xs
first_is [] x is = cc
first_is {X} (y ∷ xs) x is = let same : x ≡ y = cc in ap (λ (z : X). z ∷ xs) (sym same)

-- a list with no first element
none_is : {X : Type 0} (xs : List X) → None ≡ slice_get xs 0 → xs ≡ []
none_is [] is = refl
none_is (x ∷ xs) is = cc

pub returns-then-self-clause-follows : goal.returns-then-self-clause-follows
returns-then-self-clause-follows c w h legal s =
    pull_down_goes w h c.args.now c.args.self.now legal s (rw (← c.self.view_is)
    (elim c.then-self.branch [
      | then-self-via-then-self v ↦ or_left c.self.inside.closed
          (not c.self.inside.up) v.if-self.true
      | then-self-via-else-self+then-not-self v ↦ or_right c.self.inside.closed
          (not c.self.inside.up) (not_from_false c.self.inside.up v.if-not-self.true)
    ]))

pub returns-in-Some-clause-follows : goal.returns-in-Some-clause-follows
returns-in-Some-clause-follows c w h legal s =
    rw c.max.ensures
    (pull_ack_goes w h c.args.now c.in-Some.ack
    (drop 1 c.self.inside.owed.acks) c.args.self.now _ legal s
    (rw (← c.self.view_is, c.if-self.false, c.if-not-self.false) refl)
    (rw (← c.self.view_is)
    (first_is c.self.inside.owed.acks c.in-Some.ack c.in-Some.ensures.first))
    (rw (← c.self.view_is, c.pop.ensures.rest) refl))

pub returns-then-self-2-clause-follows : goal.returns-then-self-2-clause-follows
returns-then-self-2-clause-follows c w h legal s =
    let none = none_is c.self.inside.owed.acks c.in_default.ensures.first in
    pull_paused_goes w h c.args.now c.args.self.now _ legal s
    (rw (← c.self.view_is, c.pop.ensures.rest, none) refl)
    (rw (← c.self.view_is, c.if-self.false, c.if-not-self.false) refl)
    (rw (← c.self.view_is) none)
    (rw (← c.self.view_is) c.if-self-2.true)

-- the answer is that of the queue
given : (c : goal.Joined-next_out) → c.match-next_out.result ≡ pull_of c.next_out.result
given c = elim c.match-next_out.branch [
  | in-Stream w ↦ w.result-is ∙ sym (ap pull_of w.in-Stream.is)
  | in-Idle w ↦ w.result-is ∙ sym (ap pull_of w.in-Idle.is)
  | in-NoMemory w ↦ w.result-is ∙ sym (ap pull_of w.in-NoMemory.is)
]

pub returns-clause-follows : goal.returns-clause-follows
returns-clause-follows c w h legal s =
    let none = none_is c.self.inside.owed.acks c.in_default.ensures.first in
    rw (given c) (pull_out_goes w h c.args.now c.next_out.result c.args.self.now _ legal s
    (rw (← c.self.view_is, c.if-self.false, c.if-not-self.false) refl)
    (rw (← c.self.view_is) none)
    (rw (← c.self.view_is) c.if-self-2.false)
    (rw (← c.self.view_is) c.next_out.ensures.answer)
    (rw (← c.self.view_is, c.next_out.ensures.state, c.pop.ensures.rest, none) refl))
