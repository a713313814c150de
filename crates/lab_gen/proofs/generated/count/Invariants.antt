use Rattle.lab_gen.proofs.RunLemmas.{HasMade}
use Rattle.lab_gen.proofs.generated.count.Given as goal

-- the rounds so far were made
abbrev pub invariant-loop-round : goal.invariant-loop-round
invariant-loop-round l = HasMade l.window l.start l.round l.number l.run
