use Rattle.std.proofs.Common.{sym, ◌∙◌, subst, zero}
use Rattle.std.specs.List.{All}
use Rattle.relay_accept.specs.declared.run_end.RunEnd.{RunEnd}
use Rattle.relay_accept.specs.Accepting.{IsOut}
use Rattle.relay_accept.specs.Seats.{locks_in}
use Rattle.relay_accept.proofs.EndLemmas.{when_failed}
use Rattle.relay_accept.proofs.StepLemmas.{Steps-end, Steps-port, Steps-port-end, Steps-same, Steps-then}
use Rattle.relay_accept.proofs.accept.accept_once.Goals as goal

pub returns-then-is_set : goal.returns-then-is_set
returns-then-is_set g c =
    let joined = c.join_ended.ensures (g.L.LinkPorts.faults c.args.ports.now) in
    Steps-then _ _ _ _ _ _ _ _ _ _ _ _ joined
    (Steps-end _ _ _ _ _ RunEnd.Stopped _ _ joined.out c.end_by.ensures (λ P Q cs. tt {0}))

pub returns-then-len-ge-MAX_LIVING : goal.returns-then-len-ge-MAX_LIVING
returns-then-len-ge-MAX_LIVING g c = c.join_ended.ensures (g.L.LinkPorts.faults c.args.ports.now)

pub returns-then-is_err : goal.returns-then-is_err
returns-then-is_err g c =
    let joined =
    Steps-same _ _ _ _ _ _ _ c.reserve.new.self.items _ _ c.reserve.ensures.items
    (c.join_ended.ensures (g.L.LinkPorts.faults c.args.ports.now)) in
    Steps-then _ _ _ _ _ _ _ _ _ _ _ _ joined
    (Steps-end _ _ _ _ _ RunEnd.NoMemory _ _ joined.out c.end_by-then-is_err.ensures
    (λ P Q cs. tt {0}))

pub start-requires-clause-desk : goal.start-requires-clause-desk
start-requires-clause-desk g c κs within =
    (c.join_ended.ensures zero).same_desk ∙ c.requires.desk

pub start-requires-clause-switches : goal.start-requires-clause-switches
start-requires-clause-switches g c κs within =
    (c.join_ended.ensures zero).same_switches ∙ c.requires.switches

pub start-requires-clause-out : goal.start-requires-clause-out
start-requires-clause-out g c κs within =
    subst
    (All (IsOut g.W.Spawner.faults c.args.ctx.now.desk.now (locks_in c.args.ctx.now.switches.now)))
    (sym c.reserve.ensures.items) (c.join_ended.ensures zero).out

pub over_if-requires-clause-desk : goal.over_if-requires-clause-desk
over_if-requires-clause-desk g c κs within =
    (c.join_ended.ensures zero).same_desk ∙ c.requires.desk

pub over_if-requires-clause-out : goal.over_if-requires-clause-out
over_if-requires-clause-out g c κs within =
    subst
    (All (IsOut g.W.Spawner.faults c.args.ctx.now.desk.now (locks_in c.args.ctx.now.switches.now)))
    (sym (c.as_slice.ensures.value ∙ c.reserve.ensures.items)) (c.join_ended.ensures zero).out

pub returns-in-Ok-Some : goal.returns-in-Ok-Some
returns-in-Ok-Some g c =
    let joined =
    Steps-same _ _ _ _ _ _ _ c.reserve.new.self.items _ _ c.reserve.ensures.items
    (c.join_ended.ensures (g.L.LinkPorts.faults c.args.ports.now)) in
    let now = g.L.LinkPorts.faults c.accept.new.self in
    Steps-then _ _ _ _ _ now _ _ _ _ _ _ joined
    (Steps-then _ _ _ _ _ now _ _ _ _ _ _
    (Steps-port _ _ _ _ now _ _ joined.out c.accept.ensures.counted) (c.start.ensures now))

pub returns-in-Ok-None : goal.returns-in-Ok-None
returns-in-Ok-None g c =
    let was = g.L.LinkPorts.faults c.args.ports.now in
    let now = g.L.LinkPorts.faults c.accept.new.self in
    let joined =
    Steps-same _ _ _ was was _ _ c.as_slice.result.now _ _
    (c.as_slice.ensures.value ∙ c.reserve.ensures.items) (c.join_ended.ensures was) in
    Steps-same _ _ _ was now _ _ c.reserve.new.self.items _ _ (sym c.as_slice.ensures.value)
    (Steps-then _ _ _ _ _ now _ _ _ _ _ _ joined
    (Steps-then _ _ _ _ _ now _ _ _ _ _ _
    (Steps-port _ _ _ _ now _ _ joined.out c.accept.ensures.counted) (c.over_if.ensures now)))

pub returns-in-Err-Failed : goal.returns-in-Err-Failed
returns-in-Err-Failed g c =
    let joined =
    Steps-same _ _ _ _ _ _ _ c.reserve.new.self.items _ _ c.reserve.ensures.items
    (c.join_ended.ensures (g.L.LinkPorts.faults c.args.ports.now)) in
    let now = g.L.LinkPorts.faults c.accept.new.self in
    Steps-then _ _ _ _ _ now _ _ _ _ _ _ joined
    (Steps-port-end _ _ _ _ now _ _ _ joined.out c.accept.ensures.counted
    (when_failed c.accept.result c.in-Err-Failed.field-0 _ c.in-Err-Failed.is
    c.in-Err-Failed.field-0-is c.accept.ensures.failed) c.end_by-in-Err-Failed.ensures)

pub returns-in-Err-NoMemory : goal.returns-in-Err-NoMemory
returns-in-Err-NoMemory g c =
    let joined =
    Steps-same _ _ _ _ _ _ _ c.reserve.new.self.items _ _ c.reserve.ensures.items
    (c.join_ended.ensures (g.L.LinkPorts.faults c.args.ports.now)) in
    let now = g.L.LinkPorts.faults c.accept.new.self in
    Steps-then _ _ _ _ _ now _ _ _ _ _ _ joined
    (Steps-then _ _ _ _ _ now _ _ _ _ _ _
    (Steps-port _ _ _ _ now _ _ joined.out c.accept.ensures.counted)
    (Steps-end _ _ _ now _ RunEnd.NoMemory _ _ joined.out c.end_by-in-Err-NoMemory.ensures (λ P Q cs. tt {0})))
