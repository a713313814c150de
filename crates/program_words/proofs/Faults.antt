-- What a fault says of the words, led from one line to another.

use Rattle.program_words.specs.Faults.{IsMistake, Tells}
use Rattle.program_words.specs.declared.fault.WordsFault.{WordsFault}

-- a fault that is not Asked, of words that are no line
pub mistaken : (fault : WordsFault) (line : Type 0) → IsMistake fault → (line → ⊥)
    → Tells fault ⊥ line
mistaken (WordsFault.Asked text) line m other = absurd m
mistaken (WordsFault.Usage text) line m other = ((λ a. a), other)
mistaken WordsFault.NoMemory line m other = tt

-- where the one line is none, the other is none
pub tells_part : (fault : WordsFault) (part line : Type 0) → (line → part)
    → Tells fault ⊥ part → Tells fault ⊥ line
tells_part (WordsFault.Asked text) part line has t = absurd t.0
tells_part (WordsFault.Usage text) part line has t = ((λ a. a), λ l. t.1 (has l))
tells_part WordsFault.NoMemory part line has t = tt

-- the same of all the words, which ask for no text
pub tells_line : (fault : WordsFault) (asks part line : Type 0) → (asks → ⊥) → (line → part)
    → Tells fault ⊥ part → Tells fault asks line
tells_line (WordsFault.Asked text) asks part line other has t = absurd t.0
tells_line (WordsFault.Usage text) asks part line other has t = (other, λ l. t.1 (has l))
tells_line WordsFault.NoMemory asks part line other has t = tt

-- the same of words that clap does not take
pub tells_taken : (fault : WordsFault) (asks taken line : Type 0) → (line → taken)
    → Tells fault asks taken → Tells fault asks line
tells_taken (WordsFault.Asked text) asks taken line has t = (t.0, λ l. t.1 (has l))
tells_taken (WordsFault.Usage text) asks taken line has t = (t.0, λ l. t.1 (has l))
tells_taken WordsFault.NoMemory asks taken line has t = tt
