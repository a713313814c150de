use Rattle.std.proofs.Common.{◌≡◌, ◌++◌, take}
use Rattle.lab_streams.specs.Steps.{bytes_of}
use Rattle.lab_streams.proofs.carrier.Carrier.keep.Given as goal

-- the bytes of the items so far are kept
abbrev pub invariant-loop-item : goal.invariant-loop-item
invariant-loop-item l =
    l.self ≡ record l.fn.self { left = l.fn.self.left ++ bytes_of (take l.item-index l.items) }
