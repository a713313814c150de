use Rattle.std.proofs.Common.{◌≡◌, false, take}
use Rattle.relay_desk.specs.Openings.{is_named}
use Rattle.relay_accept.proofs.let_in.place_of.Given as goal

abbrev pub invariant-loop-place : goal.invariant-loop-place
invariant-loop-place l = is_named (take l.place l.fn.names) l.fn.session ≡ false
