-- The words of `plugin`.
use Rattle.std.specs.Prelude.{◌<◌, ◌^◌, List, codes}
use Rattle.chan_values.specs.declared.side.Side.TheVariants.{Plugin}
use Rattle.clap.specs.Words.{Row, Text, first_of, matches_of}
use Rattle.program_words.specs.Commands.{Takes, plugin}
use Rattle.program_words.specs.Options.{IsPositive, SaysAddress, SaysNumberOr, SaysToken}
use Rattle.program_words.specs.declared.plugin_words.PluginWords.{PluginWords}

-- what clap found says this
pub record SaysPlugin (rows : List Row) (line : PluginWords) : Type 0 where
  pub relay : SaysAddress (first_of (codes "relay") rows) line.relay
  pub token : SaysToken (first_of (codes "token") rows) Plugin line.token
  pub listen : SaysNumberOr 0 (first_of (codes "listen") rows) line.listen
  pub listens : line.listen < 2 ^ 16
  pub connections : SaysNumberOr 1 (first_of (codes "connections") rows) line.connections
  pub connects : IsPositive line.connections

-- the words are a command line of `plugin` that says this
abbrev pub IsPluginLine : PluginWords → List Text → Type 0
IsPluginLine line words = Takes plugin words × SaysPlugin (matches_of plugin words) line
