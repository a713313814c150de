use Rattle.std.proofs.Common.{◌≡◌, ◌≤◌, ◌-◌, length, vec_len}
use Rattle.lab_cmd.specs.Inputs.{ReadSome}
use Rattle.lab_cmd.proofs.input.read_input.Given as goal

-- what was read so far is the front of what was left
abbrev pub invariant-reading : goal.invariant-reading
invariant-reading g l =
    let input = g.S.Source.input in
    let faults = g.S.Source.faults in
    record {
      read : ReadSome l.input.items (input l.fn.source) (input l.source);
      short : length l.input.items ≤ 67108865;
      steady : faults l.source ≡ faults l.fn.source;
    }

abbrev pub decreases-reading : goal.decreases-reading
decreases-reading g l = 67108865 - vec_len l.input
