use Rattle.std.proofs.Common.{◌≡◌, ◌+◌, ◌-◌, length, take, drop, inl, inr, arith, length-take, length-drop}
use Rattle.agent_message.proofs.PieceLemmas.{split_piece}
use Rattle.agent_message.proofs.capture.front_of.Goals as goal

pub returns-in-Ok : goal.returns-in-Ok
returns-in-Ok c =
    let bytes = c.args.bytes.now in
    let size = c.u32_at-said.result in (
      take (4 + size - 4) (drop 4 bytes),
      drop (4 + size) bytes,
      split_piece bytes size (λ i. omega (arith, c.type_inv.bytes i)) c.u32_at-said.ensures
          (omega arith),
      c.in-Ok.ensures.read,
    )

pub returns-in_default : goal.returns-in_default
returns-in_default c =
    let bytes = c.args.bytes.now in
    let size = c.u32_at-said.result in
    let spelled = take (4 + size - 4) (drop 4 bytes) in
    let sized : length spelled ≡ size =
    omega (arith, length-take (4 + size - 4) (drop 4 bytes), length-drop 4 bytes) in
    elim c.in-Err.ensures.refused [
      | inl none ↦ absurd (c.in_default.not-NoMemory none)
      | inr refuses ↦ (
        (
          spelled,
          drop (4 + size) bytes,
          split_piece bytes size (λ i. omega (arith, c.type_inv.bytes i)) c.u32_at-said.ensures
              (omega arith),
          omega arith,
          refuses,
        ),
        λ is. elim is [ inl less ↦ omega arith | inr short ↦ omega (arith, c.u32_at-said.ensures) ],
      )
    ]
