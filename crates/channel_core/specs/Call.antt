-- A call of an end with its answer, and lists read from the front.
use Rattle.std.specs.Prelude.{List, [], ◌∷◌, ◌++◌}
use Rattle.channel_core.specs.declared.call.EndCall.{EndCall}
use Rattle.channel_core.specs.declared.call.EndAnswer.{EndAnswer}

-- an entry of a history: a call and what it answered
pub record Entry : Type 0 where
  pub call : EndCall
  pub answer : EndAnswer

-- each element of the second list with all that stands before it, after the first list
abbrev pub earlier_from : {X : Type 0} → List X → List X → List (List X × X)
earlier_from before [] = []
earlier_from before (x ∷ xs) = (before, x) ∷ earlier_from (before ++ x ∷ []) xs

-- each element with the list of those before it
unfoldable pub with_earlier : {X : Type 0} → List X → List (List X × X)
with_earlier xs = earlier_from [] xs
