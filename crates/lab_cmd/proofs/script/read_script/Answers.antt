use Rattle.std.proofs.Common.{◌≡◌, ◌+◌, ◌∷◌, ◌++◌, map, length, arith}
use Rattle.lab_script.specs.Lines.{lines_of}
use Rattle.lab_cmd.proofs.ScriptLemmas.{IsFirstBad-after}
use Rattle.lab_cmd.proofs.script.read_script.Goals as goal

pub returns-in-None-2-clause-bad : goal.returns-in-None-2-clause-bad
returns-in-None-2-clause-bad g c n is =
    let line = g.C.Line in
    let commands = c.loop-line.commands.items in
    let parts : map line.spelling commands ++ c.in-Some.line.now ∷ c.next.new.self ≡ lines_of
    c.args.input.now =
    rw (← c.in-Some.ensures.steps) c.loop-line.invariant.spelled in
    let place : n ≡ length commands + 1 =
    let number : c.len.result + 1 ≡ n = cc in omega (arith, c.loop-line.commands.ok.0) in
    let out : ¬ line.is_line c.in-Some.line.now =
    rw c.in-None-2.is at c.in_ok-command.ensures.none in
    IsFirstBad-after line.spelling line.in_range line.is_line g.met.C.Line.spells_line
    commands n c.in-Some.line.now c.next.new.self _ parts
    c.loop-line.invariant.in_range place out
