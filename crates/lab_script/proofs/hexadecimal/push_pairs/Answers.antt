use Rattle.std.proofs.Common.{sym, arith}
use Rattle.std.proofs.lemmas.List.{append-nil, append_assoc}
use Rattle.std.proofs.lemmas.Grind.{common_steps}
use Rattle.hex.specs.Hex.{encode_with}
use Rattle.lab_script.proofs.HexDigits.{encode_lower_more}
use Rattle.lab_script.proofs.hexadecimal.push_pairs.Goals as goal

pub loop-byte-init : goal.loop-byte-init
unfolding encode_with
loop-byte-init c = sym (append-nil c.args.out.now.items)

pub loop-byte-preserved : goal.loop-byte-preserved
loop-byte-preserved c =
    let more = encode_lower_more c.args.bytes.now c.loop-byte.byte-index c.loop-byte-test.true in
    grind (arith, common_steps, more, append_assoc)
