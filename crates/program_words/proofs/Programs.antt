-- What clap asks of the programs' commands.
use Rattle.std.proofs.Common.{◌≡◌, ℕ, ◌≤◌, true, List, length, refl}
use Rattle.clap.specs.Words.{App, Text, fault_of, is_simple, is_simple_and_free}
use Rattle.clap.specs.Simple.{built}
use Rattle.clap.specs.Walk.{nothing_held}
use Rattle.program_words.specs.Commands.{agent, plugin, relay}
use Rattle.program_words.proofs.OneKind.{one_kind}

-- the matches and the faults of the command are known, and at most one kind of fault comes
pub record IsKnown (app : App) : Type 0 where
  pub simple : is_simple app ≡ true
  pub free : is_simple_and_free app ≡ true
  pub one : (texts : List Text) → length (fault_of app texts) ≤ 1

pub plugin_known : IsKnown plugin
plugin_known = record {
  simple = refl;
  free = refl;
  one = λ texts. one_kind (built plugin).top nothing_held texts refl refl;
}

pub agent_known : IsKnown agent
agent_known = record {
  simple = refl;
  free = refl;
  one = λ texts. one_kind (built agent).top nothing_held texts refl refl;
}

pub relay_known : IsKnown relay
relay_known = record {
  simple = refl;
  free = refl;
  one = λ texts. one_kind (built relay).top nothing_held texts refl refl;
}
