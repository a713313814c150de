-- The lines of a script whose ends carry streams: each command has one text.
use Rattle.std.specs.Prelude.{◌≡◌, ◌≢◌, ℕ, ◌<◌, ◌≤◌, ◌^◌, List, [], ◌∷◌, length, decimal, All, ⊤}
use Rattle.std.specs.List.{join_with_byte}
use Rattle.lab_script.specs.declared.command.Action.{Action}
use Rattle.lab_script.specs.declared.command.Command.{Command}
use Rattle.lab_script.specs.declared.stream_command.StreamAction.{StreamAction}
use Rattle.lab_script.specs.declared.stream_command.StreamCommand.{StreamCommand}
use Rattle.lab_script.specs.declared.verb.Verb.{Verb}
use Rattle.lab_script.specs.Command.{IsCommand, words_of}
use Rattle.lab_script.specs.Verb.{verb_text}
use Rattle.lab_script.specs.Words.{side_text, hex_text}

-- the verb of an action
abbrev pub stream_verb_of : StreamAction → Verb
stream_verb_of (StreamAction.Write sid bytes) = Verb.StreamWrite
stream_verb_of (StreamAction.Close sid) = Verb.StreamClose
stream_verb_of (StreamAction.Push most) = Verb.StreamPush
stream_verb_of (StreamAction.Take sid most) = Verb.StreamTake

-- the words of an action behind its verb and its end, in order
abbrev pub stream_operands_of : StreamAction → List (List ℕ)
stream_operands_of (StreamAction.Write sid bytes) = decimal sid ∷ hex_text bytes ∷ []
stream_operands_of (StreamAction.Close sid) = decimal sid ∷ []
stream_operands_of (StreamAction.Push most) = decimal most ∷ []
stream_operands_of (StreamAction.Take sid most) = decimal sid ∷ decimal most ∷ []

-- the words of a command, in order
abbrev pub stream_words_of : StreamCommand → List (List ℕ)
stream_words_of (StreamCommand.Plain command) = words_of command
stream_words_of StreamCommand.Open = verb_text Verb.StreamOpen ∷ []
stream_words_of (StreamCommand.On side action) =
    verb_text (stream_verb_of action) ∷ side_text side ∷ stream_operands_of action

-- the one text of a command: its words, with one space between two of them
abbrev pub stream_spelling : StreamCommand → List ℕ
stream_spelling command = join_with_byte 32 (stream_words_of command)

-- bytes, at least one, and no more of them than are written to a stream at once
pub record IsWritten (bytes : List ℕ) : Type 0 where
  pub each : All (λ b. b < 256) bytes
  pub some : 1 ≤ length bytes
  pub few : length bytes ≤ 32768

-- a number of bytes that is asked for: at least one, and this many at most
abbrev pub IsSize : ℕ → ℕ → Type 0
IsSize limit most = (1 ≤ most) × (most ≤ limit)

-- the numbers and the bytes of an action are in range
abbrev pub IsStreamAction : StreamAction → Type 0
IsStreamAction (StreamAction.Write sid bytes) = (sid < 2 ^ 32) × IsWritten bytes
IsStreamAction (StreamAction.Close sid) = sid < 2 ^ 32
IsStreamAction (StreamAction.Push most) = IsSize 1024 most
IsStreamAction (StreamAction.Take sid most) = (sid < 2 ^ 32) × IsSize 65536 most

-- it puts in no item of payload type 1: those carry the bytes of the streams
abbrev pub IsNoStreamPut : Action → Type 0
IsNoStreamPut (Action.Put item) = item.ptype ≢ 1
IsNoStreamPut (Action.PutLast item) = item.ptype ≢ 1
IsNoStreamPut action = ⊤

-- neither does this line
abbrev pub IsBesideStreams : Command → Type 0
IsBesideStreams (Command.On side action) = IsNoStreamPut action
IsBesideStreams command = ⊤

-- the numbers and the bytes of a command are in range
abbrev pub IsStreamCommand : StreamCommand → Type 0
IsStreamCommand (StreamCommand.Plain command) = IsCommand command × IsBesideStreams command
IsStreamCommand StreamCommand.Open = ⊤
IsStreamCommand (StreamCommand.On side action) = IsStreamAction action

-- the line says this command
pub record SaysStream (line : List ℕ) (command : StreamCommand) : Type 0 where
  pub in_range : IsStreamCommand command
  pub spelled : stream_spelling command ≡ line

-- a line of the grammar: it says some command
abbrev pub IsStreamLine : List ℕ → Type 0
IsStreamLine line = (command : StreamCommand) × SaysStream line command
