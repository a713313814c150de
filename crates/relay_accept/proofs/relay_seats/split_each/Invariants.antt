use Rattle.std.proofs.Common.{◌≡◌, ◌≤◌, length, take}
use Rattle.relay_accept.specs.Seats.{locks_in, locks_of}
use Rattle.relay_accept.proofs.relay_seats.split_each.Given as goal

abbrev pub invariant-loop-place : goal.invariant-loop-place
invariant-loop-place l =
    (locks_of l.seats ≡ locks_in l.fn.locks)
    × (locks_of l.others.items ≡ take l.place (locks_in l.fn.locks))
    × (l.place ≤ length l.fn.locks)
    × (l.place-end ≡ length l.fn.locks)
