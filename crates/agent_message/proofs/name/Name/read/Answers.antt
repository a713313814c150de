use Rattle.std.proofs.Common.{◌≡◌, ◌≤◌, length, take, ap, ◌∙◌, arith}
use Rattle.std.proofs.lemmas.Bool.Decides.{nat_tests}
use Rattle.std.proofs.lemmas.List.Sums.{prefix_len-le-length}
use Rattle.agent_message.specs.Names.{is_name_byte, name_of}
use Rattle.agent_message.proofs.NameLemmas.{IsName-name_of}
use Rattle.agent_message.proofs.name.Name.read.Goals as goal

pub split_at-requires : goal.split_at-requires
split_at-requires c =
    omega (arith, c.name_len.ensures, prefix_len-le-length is_name_byte c.args.field.now)

pub of-requires : goal.of-requires
of-requires c =
    let front : c.split_at.result.0.now ≡ name_of c.args.field.now =
    c.split_at.ensures.front ∙ ap (λ n. take n c.args.field.now) c.name_len.ensures in
    let some : 1 ≤ length c.split_at.result.0.now =
    grind (arith, nat_tests, c.if-is_empty.false, c.is_empty.ensures) in
    rw front (IsName-name_of c.args.field.now c.requires (rw front at some))
