-- The commands of the programs, as clap reads words by them: each option takes one value, once, as
-- `--name VALUE` or `--name=VALUE`; a flag takes none.
use Rattle.std.specs.Prelude.{◌≡◌, true, List, [], Some, codes}
use Rattle.clap.specs.Words.{App, Rule, Text, fault_of, new_app, new_rule, with_rule}
use Rattle.clap.specs.declared.builder.action.ArgAction.TheVariants.{Set, SetTrue}

-- an option that may be left out
abbrev pub option : Text → Rule
option name = record (new_rule name) { long = Some name; action = Some Set; value_names = 1 }

-- an option that has to be there
abbrev pub required : Text → Rule
required name = record (option name) { required = true }

-- an option without a value
abbrev pub flag : Text → Rule
flag name = record (new_rule name) { long = Some name; action = Some SetTrue }

-- a command of this name over the words behind the program's name, with `--help` and `--version`
abbrev pub program : Text → App
program name = record (new_app name) {
  top = record (new_app name).top { no_binary_name = true; has_version = true };
}

-- `plugin`
abbrev pub plugin : App
plugin = with_rule (with_rule (with_rule (with_rule (program (codes "plugin"))
    (required (codes "relay"))) (required (codes "token"))) (option (codes "listen")))
    (option (codes "connections"))

-- `agent`
abbrev pub agent : App
agent = with_rule (with_rule (with_rule (with_rule (with_rule (program (codes "agent"))
    (required (codes "relay"))) (required (codes "token"))) (option (codes "shell")))
    (option (codes "port"))) (flag (codes "mux"))

-- `relay`
abbrev pub relay : App
relay = with_rule (with_rule (with_rule (with_rule (program (codes "relay"))
    (required (codes "port"))) (required (codes "sessions"))) (required (codes "store")))
    (option (codes "drop-after"))

-- clap finds no fault with the words
abbrev pub Takes : App → List Text → Type 0
Takes app words = fault_of app words ≡ []
