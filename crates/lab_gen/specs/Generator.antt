-- The script that is made from a number of rounds and a start.
use Rattle.std.specs.Prelude.{ℕ, ◌+◌, ◌*◌, ◌/◌, ◌%◌, ◌^◌, zero, suc, if◌then◌else◌, nat_lt, List, [], ◌∷◌, ◌++◌}
use Rattle.std.specs.List.{flat_map, range_with_len}
use Rattle.chan_values.specs.declared.item.Item.{Item}
use Rattle.chan_values.specs.declared.side.Side.TheVariants.{Plugin, Agent}
use Rattle.chan_values.specs.Sides.{other}
use Rattle.lab_script.specs.declared.command.Action.{Action}
use Rattle.lab_script.specs.declared.command.Command.{Command}
use Rattle.lab_script.specs.declared.word.Which.{Which}
use Rattle.lab_gen.specs.declared.round.Round.{Round}

-- the number after this one: a linear congruential generator modulo 2^64
abbrev pub number_after : ℕ → ℕ
number_after number = (number * 6364136223846793005 + 1442695040888963407) % 2 ^ 64

-- number k of the generator, from its start on
unfoldable pub number_at : ℕ → ℕ → ℕ
number_at start zero = start
number_at start (suc k) = number_after (number_at start k)

-- what a round does, by the upper four bits of its number
abbrev pub round_of_bits : ℕ → Round
round_of_bits bits =
    if nat_lt bits 3 then Round.Put Plugin
    else if nat_lt bits 5 then Round.Put Agent
    else if nat_lt bits 9 then Round.Send Plugin
    else if nat_lt bits 13 then Round.Send Agent
    else if nat_lt bits 14 then Round.Lose Plugin
    else if nat_lt bits 15 then Round.Lose Agent
    else Round.Reconnect

-- what is put in in a round: one byte of output, the round's number modulo 256
abbrev pub item_of : ℕ → Item
item_of round = record { ptype = 1; payload = round % 256 ∷ [] }

-- the lines of a round behind the one that sets the moment
abbrev pub lines_of : ℕ → Round → List Command
lines_of round (Round.Put side) = Command.On side (Action.Put (item_of round)) ∷ []
lines_of round (Round.Send side) =
    Command.On side Action.Pull ∷ Command.On (other side) (Action.Hear Which.Last) ∷ []
lines_of round (Round.Lose side) =
    Command.On side Action.Pull ∷ Command.On side Action.Tick ∷ []
lines_of round Round.Reconnect =
    Command.On Plugin Action.Lost ∷ Command.On Agent Action.Lost
    ∷ Command.On Plugin Action.Open ∷ Command.On Agent Action.Open ∷ []

-- a round, which begins 100 milliseconds after the one before it
abbrev pub round_lines : ℕ → Round → List Command
round_lines round what = Command.At (100 * round) ∷ lines_of round what

-- what round r does: number r + 1 of the generator decides
abbrev pub round_at : ℕ → ℕ → Round
round_at start round = round_of_bits (number_at start (round + 1) / 2 ^ 60)

-- so many rounds, from round 0 on
unfoldable pub rounds : ℕ → ℕ → List Command
rounds count start =
    flat_map (λ round. round_lines round (round_at start round)) (range_with_len 0 count)

-- the whole script: the rounds, and then a settle
abbrev pub generated : ℕ → ℕ → List Command
generated count start = rounds count start ++ Command.Settle ∷ []
