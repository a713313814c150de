-- How much the ends put in and released, and the line that tells it.
use Rattle.std.specs.Prelude.{ℕ, List, [], ◌∷◌, ◌++◌, codes, decimal, length}
use Rattle.chan_values.specs.declared.side.Side.TheVariants.{Plugin, Agent}
use Rattle.channel_core.specs.History.{put_items, released_items}
use Rattle.channel_core.specs.World.{Event, history_of}
use Rattle.lab_gen.specs.declared.counts.Counts.{Counts}

-- how many items each end's user put in, and how many each end released
abbrev pub counts_of : List Event → Counts
counts_of world =
    record {
      put_by_plugin = length (put_items (history_of Plugin world));
      put_by_agent = length (put_items (history_of Agent world));
      released_by_agent = length (released_items (history_of Agent world));
      released_by_plugin = length (released_items (history_of Plugin world));
    }

-- the line of a generated run of so many rounds
abbrev pub counts_line : ℕ → Counts → List ℕ
counts_line rounds counts =
    codes "gen " ++ decimal rounds
    ++ codes " put P " ++ decimal counts.put_by_plugin
    ++ codes " A " ++ decimal counts.put_by_agent
    ++ codes " released A " ++ decimal counts.released_by_agent
    ++ codes " P " ++ decimal counts.released_by_plugin
    ++ 10 ∷ []
