-- The words of `agent`.
use Rattle.std.specs.Prelude.{◌≡◌, List, Some, None, codes, false}
use Rattle.chan_values.specs.declared.side.Side.TheVariants.{Agent}
use Rattle.clap.specs.Words.{Row, Text, first_of, matches_of}
use Rattle.program_words.specs.Commands.{Takes, agent}
use Rattle.program_words.specs.Options.{IsPositive, SaysAddress, SaysFlag, SaysNumber, SaysToken}
use Rattle.program_words.specs.declared.agent_words.AgentWords.{AgentWords}
use Rattle.program_words.specs.declared.agent_words.Work.{Work}

-- what the agent is to do: to run a program, or to connect to a port, with streams where `--mux` is
-- there
abbrev pub SaysWork : List Row → Work → Type 0
SaysWork rows (Work.Shell program) = (first_of (codes "shell") rows ≡ Some program)
    × (first_of (codes "port") rows ≡ None) × SaysFlag (first_of (codes "mux") rows) false
SaysWork rows (Work.Port port mux) = (first_of (codes "shell") rows ≡ None)
    × SaysNumber (first_of (codes "port") rows) port × IsPositive port
    × SaysFlag (first_of (codes "mux") rows) mux

-- what clap found says this
pub record SaysAgent (rows : List Row) (line : AgentWords) : Type 0 where
  pub relay : SaysAddress (first_of (codes "relay") rows) line.relay
  pub token : SaysToken (first_of (codes "token") rows) Agent line.token
  pub work : SaysWork rows line.work

-- the words are a command line of `agent` that says this
abbrev pub IsAgentLine : AgentWords → List Text → Type 0
IsAgentLine line words = Takes agent words × SaysAgent (matches_of agent words) line
