use Rattle.std.proofs.Common.{◌≡◌, length, sym, ◌∙◌, arith, length-drop}
use Rattle.agent_message.specs.Fields.{payload_length, payload_in}
use Rattle.agent_message.proofs.Faults.{past_length, past_size}
use Rattle.agent_message.proofs.decoding.judge_length.Goals as goal

pub returns-then-said-have-clause-refused : goal.returns-then-said-have-clause-refused
returns-then-said-have-clause-refused c = (
  (c.u32_at-said.ensures, sym (length-drop 120 c.args.bytes.now), c.if-said-have.true),
  c.requires.faultless,
)

pub returns-then-have-gt-MAX_PAYLOAD-clause-refused :
    goal.returns-then-have-gt-MAX_PAYLOAD-clause-refused
returns-then-have-gt-MAX_PAYLOAD-clause-refused c =
    let whole : payload_length c.args.bytes.now ≡ length (payload_in c.args.bytes.now) =
    sym c.u32_at-said.ensures ∙ c.if-said-have.false ∙ sym (length-drop 120 c.args.bytes.now) in
    ((c.u32_at-said.ensures, omega arith), past_length c.args.bytes.now c.requires.faultless whole)

pub returns-clause-faultless : goal.returns-clause-faultless
returns-clause-faultless c =
    let whole : payload_length c.args.bytes.now ≡ length (payload_in c.args.bytes.now) =
    sym c.u32_at-said.ensures ∙ c.if-said-have.false ∙ sym (length-drop 120 c.args.bytes.now) in
    past_size c.args.bytes.now (past_length c.args.bytes.now c.requires.faultless whole)
    (omega (arith, length-drop 120 c.args.bytes.now, whole))
