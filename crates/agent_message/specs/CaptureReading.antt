-- What a reader of a capture stands for after the bytes so far.
use Rattle.std.specs.Prelude.{◌≡◌, ℕ, ◌+◌, ◌-◌, Option, None, MatchOption, List, length, nat_lt, if◌then◌else◌}
use Rattle.agent_message.specs.Captures.{IsUnfinished, Pieces, ShowsFault, place_of, said_length}
use Rattle.agent_message.specs.declared.capture_fault.CaptureFault.{CaptureFault}
use Rattle.agent_message.specs.declared.message.Message.{Message}

-- what a reader keeps: the bytes of the coming piece, where it begins, and the fault that was shown
pub record Pending : Type 0 where
  pub rest : List ℕ
  pub start : ℕ
  pub fault : Option CaptureFault

-- all bytes so far are the pieces of the messages given so far, and then a rest; a fault was shown
-- exactly where the rest shows one, and else the rest is an unfinished piece, which is kept
pub record StandsFor (p : Pending) (bytes : List ℕ) (given : List Message) : Type 0 where
  pub rest : List ℕ
  pub pieces : Pieces given bytes rest
  pub start : p.start ≡ place_of bytes rest
  pub kept : p.fault ≡ None → p.rest ≡ rest
  pub shown : MatchOption p.fault (IsUnfinished rest)
      (λ fault. ShowsFault bytes rest fault × ¬ IsUnfinished rest)

-- how many bytes the piece at the front lacks, or its length, where that is not whole
abbrev pub missing : List ℕ → ℕ
missing rest =
    if nat_lt (length rest) 4 then 4 - length rest else 4 + said_length rest - length rest
