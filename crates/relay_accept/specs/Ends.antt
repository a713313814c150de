-- How the workers of a relay end.
use Rattle.std.specs.Prelude.{◌≡◌, ℕ, Bool, true, List, nat_le, if◌then◌else◌}
use Rattle.std.specs.List.{list_any}
use Rattle.relay_desk.specs.declared.heard.Heard.{Heard}
use Rattle.relay_desk.specs.Desks.{DeskStep, is_draw_fault, is_store_fault}
use Rattle.relay_run.specs.declared.send_end.SendEnd.{SendEnd}
use Rattle.relay_accept.specs.declared.run_end.RunEnd.{RunEnd}

-- the place among the ends, of which the first is told
abbrev pub rank : RunEnd → ℕ
rank RunEnd.NoMemory = 0
rank RunEnd.NoThread = 1
rank RunEnd.Port = 2
rank RunEnd.Store = 3
rank RunEnd.Entropy = 4
rank RunEnd.Stopped = 5
rank RunEnd.Over = 6

-- of two ends the one that is told
abbrev pub least : RunEnd → RunEnd → RunEnd
least a b = if nat_le (rank a) (rank b) then a else b

-- what the last turn of a reading worker comes to
abbrev pub end_of_reading : Heard → RunEnd
end_of_reading Heard.Store = RunEnd.Store
end_of_reading Heard.Entropy = RunEnd.Entropy
end_of_reading Heard.NoMemory = RunEnd.NoMemory
end_of_reading heard = RunEnd.Over

-- what the end of a writing worker comes to
abbrev pub end_of_sending : SendEnd → RunEnd
end_of_sending SendEnd.Over = RunEnd.Over
end_of_sending SendEnd.Failed = RunEnd.Over
end_of_sending SendEnd.NoMemory = RunEnd.NoMemory
end_of_sending SendEnd.Stopped = RunEnd.Stopped

-- whether a call of the register failed
abbrev pub has_store_fault : List DeskStep → Bool
has_store_fault calls = list_any (λ s. is_store_fault s.1) calls

-- whether a draw failed
abbrev pub has_draw_fault : List DeskStep → Bool
has_draw_fault calls = list_any (λ s. is_draw_fault s.1) calls

-- how workers that made these calls of the desk may end, where such a start, and such a call of the
-- ports, failed
abbrev pub MayEnd : RunEnd → List DeskStep → Type 0 → Type 0 → Type 0
MayEnd RunEnd.NoMemory calls start port = Unit {0}
MayEnd RunEnd.NoThread calls start port = start
MayEnd RunEnd.Port calls start port = port
MayEnd RunEnd.Store calls start port = has_store_fault calls ≡ true
MayEnd RunEnd.Entropy calls start port = has_draw_fault calls ≡ true
MayEnd RunEnd.Stopped calls start port = Unit {0}
MayEnd RunEnd.Over calls start port = Unit {0}

-- the end wants no cause
abbrev pub IsEasyEnd : RunEnd → Type 0
IsEasyEnd RunEnd.NoMemory = Unit {0}
IsEasyEnd RunEnd.Over = Unit {0}
IsEasyEnd end = ⊥
