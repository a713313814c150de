-- The starts of the workers of several feeders, one after another.
use Rattle.std.specs.Prelude.{Bool, Option, Some, None, ℕ, List, [], ◌∷◌, ◌++◌, if◌then◌else◌}
use Rattle.session_delivery.specs.declared.deliver_end.DeliverEnd.{DeliverEnd}

-- how the starts of workers for feeders with these marks went
pub data Starts : Type 0 where
  -- all were started
  all : List ℕ → Starts
  -- these were started; memory was wanted before the next, and it and the others were left
  lacks : List ℕ → List ℕ → Starts
  -- these were started; the next could not be started, for want of memory (true) or of a thread,
  -- and the others were left
  fails : List ℕ → ℕ → Bool → List ℕ → Starts

-- the marks of the feeders for which seats were split off, in order
abbrev pub marks_begun : Starts → List ℕ
marks_begun (all marks) = marks
marks_begun (lacks marks left) = marks
marks_begun (fails marks mark starved left) = marks ++ mark ∷ []

-- the marks of the feeders that were left
abbrev pub marks_left : Starts → List ℕ
marks_left (all marks) = []
marks_left (lacks marks left) = left
marks_left (fails marks mark starved left) = left

-- how a deliverer ends that could not start a worker: for want of memory, or of a thread
abbrev pub end_of_refusal : Bool → DeliverEnd
end_of_refusal starved = if starved then DeliverEnd.NoMemory else DeliverEnd.NoThread

-- how a deliverer ends after these starts, if it does
abbrev pub end_of_starts : Starts → Option DeliverEnd
end_of_starts (all marks) = None
end_of_starts (lacks marks left) = Some DeliverEnd.NoMemory
end_of_starts (fails marks mark starved left) = Some (end_of_refusal starved)
