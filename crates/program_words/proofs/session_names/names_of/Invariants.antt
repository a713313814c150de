use Rattle.std.proofs.Common.{map}
use Rattle.program_words.proofs.SessionLemmas.{AreFirst}
use Rattle.program_words.proofs.session_names.names_of.Given as goal

abbrev pub invariant-loop-part : goal.invariant-loop-part
invariant-loop-part l = AreFirst (map (λ s. s.now) l.parts) l.part-index l.names.items
