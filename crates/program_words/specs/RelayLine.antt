-- The words of `relay`.
use Rattle.std.specs.Prelude.{◌≡◌, ℕ, ◌<◌, ◌^◌, List, Option, Some, codes}
use Rattle.clap.specs.Words.{Row, Text, first_of, matches_of}
use Rattle.program_words.specs.Commands.{Takes, relay}
use Rattle.program_words.specs.Options.{SaysNumber, SaysNumberOr}
use Rattle.program_words.specs.SessionLists.{IsListOf}
use Rattle.program_words.specs.declared.relay_words.RelayWords.{RelayWords}

-- the option has these names of sessions as its value, joined by commas
abbrev pub SaysSessions : Option Text → List Text → Type 0
SaysSessions said names = (text : Text) × (said ≡ Some text) × IsListOf names text

-- what clap found says this
pub record SaysRelay (rows : List Row) (line : RelayWords) : Type 0 where
  pub port : SaysNumber (first_of (codes "port") rows) line.port
  pub is_port : line.port < 2 ^ 16
  pub sessions : SaysSessions (first_of (codes "sessions") rows) line.sessions
  pub store : first_of (codes "store") rows ≡ Some line.store
  pub drop_after : SaysNumberOr 0 (first_of (codes "drop-after") rows) line.drop_after
  pub is_count : line.drop_after < 2 ^ 64

-- the words are a command line of `relay` that says this
abbrev pub IsRelayLine : RelayWords → List Text → Type 0
IsRelayLine line words = Takes relay words × SaysRelay (matches_of relay words) line
