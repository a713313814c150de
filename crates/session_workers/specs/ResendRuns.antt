-- All that a resend worker does, from its first turn to its last.
use Rattle.std.specs.Prelude.{◌≡◌, ℕ, Bool, true, false, Option, None, List}
use Rattle.std.specs.List.{flat_map, fold}
use Rattle.channel_core.specs.Numbers.{or_else}
use Rattle.turn_lock.specs.Runs.{AllFit}
use Rattle.session_run.specs.Adds.{AddsCalls}
use Rattle.session_workers.specs.declared.resender.Resender.{Resender}
use Rattle.session_workers.specs.Resends.{ResendTurn, gave_up, resend_calls}

-- what the turns so far come to: whether the last was made, and the first number given up
pub record Resent : Type 0 where
  pub over : Bool
  pub gave_up : Option ℕ

-- before the first turn
abbrev pub none_resent : Resent
none_resent = record { over = false; gave_up = None }

-- after one turn more
abbrev pub resent_after : Resent → ResendTurn → Resent
resent_after s turn =
    record { over = turn.look.closed; gave_up = or_else s.gave_up (gave_up turn.tick) }

-- a turn comes only where the last was not made
abbrev pub MayResend : Resent → ResendTurn → Type 0
MayResend s turn = s.over ≡ false

-- the worker made these turns, in order
pub record Resends (old : Resender) (turns : List ResendTurn) (gave : Option ℕ) (new : Resender)
    : Type 0 where
  pub may : AllFit resent_after MayResend none_resent turns
  pub progress :
      record { over = new.over; gave_up = gave } ≡ fold resent_after none_resent turns
  pub end : AddsCalls old.end (flat_map resend_calls turns) new.end

-- the worker ran to its end: a look that showed the end closed
pub record ResendsAll (old new : Resender) (gave : Option ℕ) : Type 0 where
  pub turns : List ResendTurn
  pub resends : Resends old turns gave new
  pub over : new.over ≡ true
