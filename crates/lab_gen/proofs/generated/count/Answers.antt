use Rattle.std.proofs.Common.{◌≡◌, ℕ, sym, ap, subst, ◌∙◌, arith}
use Rattle.lab_script.specs.declared.command.Command.{Command}
use Rattle.lab_run.specs.Run.{progress, progress_after}
use Rattle.lab_run.specs.Steps.{world_of}
use Rattle.lab_gen.specs.Counts.{counts_of}
use Rattle.lab_gen.specs.Generator.{rounds}
use Rattle.lab_gen.proofs.RunLemmas.{HasMade, HasMade-more, HasMade-none, world_of-generated}
use Rattle.lab_gen.proofs.generated.count.Goals as goal

pub loop-round-init : goal.loop-round-init
loop-round-init c =
    HasMade-none c.args.window c.args.start _ c.in_ok-run.ensures.begun c.in_ok-run.ensures.first

pub loop-round-preserved : goal.loop-round-preserved
loop-round-preserved c =
    let made = c.loop-round.invariant in
    HasMade-more c.args.window c.args.start c.loop-round.round c.loop-round.number _ _ _ _ made
    c.number_after-number.ensures c.round_of.ensures
    (c.in_ok-round.ensures.made c.args.window _ made.at) c.in_ok-round.ensures.few

pub returns : goal.returns
returns c =
    let made = c.loop-round.invariant in
    let w = c.args.window in
    let start = c.args.start in
    let all : c.loop-round.round ≡ c.args.rounds = omega arith in
    let P : ℕ → Type 0 = λ n. HasMade w start n c.loop-round.number c.loop-round.run in
    let whole = subst P all made in
    let world =
    world_of (progress_after w (progress w (rounds c.args.rounds start)) Command.Settle).steps in
    c.counts.ensures w world (c.in_ok-settle.ensures w _ whole.at)
    ∙ sym (ap counts_of (world_of-generated w c.args.rounds start))
