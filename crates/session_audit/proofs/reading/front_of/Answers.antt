use Rattle.std.proofs.Common.{arith, refl}
use Rattle.session_audit.proofs.ReadLemmas.{front_fault, front_is}
use Rattle.session_audit.proofs.reading.front_of.Goals as goal

pub returns-in-Says-clause-front : goal.returns-in-Says-clause-front
returns-in-Says-clause-front c =
    front_is c.args.bytes.now c.size_of-said.result _ (λ i. omega (arith, c.type_inv.bytes i))
    c.size_of-said.ensures (omega arith) (omega arith) (omega arith)
    c.in-Says.ensures.0 c.in-Says.ensures.1

pub returns-in-Foreign-clause-front : goal.returns-in-Foreign-clause-front
returns-in-Foreign-clause-front c =
    front_is c.args.bytes.now c.size_of-said.result _ (λ i. omega (arith, c.type_inv.bytes i))
    c.size_of-said.ensures (omega arith) (omega arith) (omega arith)
    c.in-Foreign.ensures.0 c.in-Foreign.ensures.1

pub returns-in-Faulty-clause-fault : goal.returns-in-Faulty-clause-fault
returns-in-Faulty-clause-fault c = (
  refl,
  front_fault c.args.bytes.now c.size_of-said.result c.in-Faulty.why
      (λ i. omega (arith, c.type_inv.bytes i)) c.size_of-said.ensures
      (omega arith) (omega arith) (omega arith) c.in-Faulty.ensures,
)
