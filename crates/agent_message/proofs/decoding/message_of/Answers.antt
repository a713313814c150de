use Rattle.std.proofs.Common.{FitsSigned, rules, ◌∙◌}
use Rattle.std.specs.Int.{w64}
use Rattle.std.proofs.lemmas.Int.{to_z-of_z}
use Rattle.agent_message.proofs.Faults.{rest_is}
use Rattle.agent_message.proofs.Spelling.{same_message}
use Rattle.agent_message.proofs.decoding.message_of.Goals as goal

pub returns-clause-read : goal.returns-clause-read
returns-clause-read c =
    let fits : FitsSigned w64 c.i64_at.result = search rules in
    same_message _ _ _ _ _ _ _ _ _ c.requires.named c.u32_at.ensures c.u64_at.ensures
    (to_z-of_z w64 c.i64_at.result fits ∙ c.i64_at.ensures)
    c.u64_at-2.ensures c.id_at.ensures c.u32_at-2.ensures
    (c.new.ensures ∙ c.in_ok-payload.ensures.items ∙ rest_is c.args.bytes.now)
