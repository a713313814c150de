use Rattle.std.proofs.Common.{ℕ, List, ◌++◌, OnOk, sym, subst}
use Rattle.channel_core.specs.World.{Event}
use Rattle.lab_run.specs.Steps.{events_of, settle_steps, world_of}
use Rattle.lab_run.proofs.RunLemmas.{world_of-append}
use Rattle.lab_gen.specs.Ends.{IsEnds}
use Rattle.lab_gen.proofs.run.Run.settle.Goals as goal

pub returns : goal.returns
returns c w p is =
    let context = c.args.self.now.context in
    let world = world_of p.steps in
    let r = c.settle.result in
    let ends = c.settle.new.self in
    let W : ℕ → Type 0 =
    λ v.
    IsEnds v world c.args.self.now.ends
    → OnOk r (IsEnds v (world ++ events_of (settle_steps v world context.moment context.line)) ends)
    in
    let M : ℕ → Type 0 =
    λ now. OnOk r (IsEnds w (world ++ events_of (settle_steps w world now context.line)) ends) in
    let L : ℕ → Type 0 =
    λ n. OnOk r (IsEnds w (world ++ events_of (settle_steps w world p.now n)) ends) in
    let V : List Event → Type 0 = λ v. OnOk r (IsEnds w v ends) in
    let made = subst W is.window (c.settle.ensures world) in
    subst V (sym (world_of-append p.steps (settle_steps w world p.now p.line)))
    (subst L is.line (subst M is.moment (made is.ends)))
