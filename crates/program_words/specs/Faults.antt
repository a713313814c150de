-- What a fault says of the words.
use Rattle.std.specs.Prelude.{⊤, ◌⊎◌, List}
use Rattle.clap.specs.Words.{App, IsAmong, Text, fault_of}
use Rattle.clap.specs.declared.error.kind.ErrorKind.TheVariants.{DisplayHelp, DisplayVersion}
use Rattle.program_words.specs.declared.fault.WordsFault.{WordsFault}

-- clap answers the words with the help or the version of the program
abbrev pub AsksText : App → List Text → Type 0
AsksText app words =
    IsAmong DisplayHelp (fault_of app words) ⊎ IsAmong DisplayVersion (fault_of app words)

-- the fault is Asked where the words ask for a text, and else Usage, and they are no line; want of
-- memory says nothing of them
abbrev pub Tells : WordsFault → Type 0 → Type 0 → Type 0
Tells (WordsFault.Asked text) asks line = asks × ¬ line
Tells (WordsFault.Usage text) asks line = ¬ asks × ¬ line
Tells WordsFault.NoMemory asks line = ⊤

-- the fault is not Asked
abbrev pub IsMistake : WordsFault → Type 0
IsMistake (WordsFault.Asked text) = ⊥
IsMistake (WordsFault.Usage text) = ⊤
IsMistake WordsFault.NoMemory = ⊤
