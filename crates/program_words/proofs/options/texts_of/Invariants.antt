use Rattle.std.proofs.Common.{◌≡◌, map, take}
use Rattle.program_words.proofs.options.texts_of.Given as goal

-- the texts of the words before this one
abbrev pub invariant-loop-word : goal.invariant-loop-word
invariant-loop-word l = map (λ s. s.now) l.texts.items ≡ take l.word-index l.words
