use Rattle.std.proofs.Common.{refl, sym, ◌∙◌}
use Rattle.agent_message.proofs.Faults.{past_short, past_header_length, past_name}
use Rattle.agent_message.proofs.decoding.header_name.Goals as goal

pub returns-in-Ok-clause-faultless : goal.returns-in-Ok-clause-faultless
returns-in-Ok-clause-faultless c =
    past_name c.args.bytes.now
    (past_header_length c.args.bytes.now
    (past_short c.args.bytes.now c.if-bytes-lt-PAYLOAD_START.false)
    (sym c.u32_at-said.ensures ∙ c.if-said-ne-HEADER_LENGTH.false))
    c.in-Ok.ensures.whole

pub returns-in-Err-clause-refused : goal.returns-in-Err-clause-refused
returns-in-Err-clause-refused c = (
  (c.in-Err.place, refl, c.in-Err.ensures.wrong),
  past_header_length c.args.bytes.now
      (past_short c.args.bytes.now c.if-bytes-lt-PAYLOAD_START.false)
      (sym c.u32_at-said.ensures ∙ c.if-said-ne-HEADER_LENGTH.false),
)
