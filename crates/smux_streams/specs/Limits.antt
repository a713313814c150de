-- The limits of one end.
use Rattle.std.specs.Prelude.{ℕ, ◌≤◌}
use Rattle.smux_acts.specs.Acts.{max_streams}

-- the most outgoing bytes
abbrev pub max_out : ℕ
max_out = 1048576

-- the most bytes that wait to be taken, of all streams together
abbrev pub max_held : ℕ
max_held = 4194304

-- how many streams a client opens in its life: one for each odd id from 3 on
abbrev pub max_opened : ℕ
max_opened = 2147483647

-- so many streams, outgoing bytes, waiting bytes and opened streams stay within the limits
pub record IsWithinLimits (streams sent waiting begun : ℕ) : Type 0 where
  pub living : streams ≤ max_streams
  pub out : sent ≤ max_out
  pub held : waiting ≤ max_held
  pub opened : begun ≤ max_opened
