use Rattle.std.proofs.Common.{◌≡◌, ◌+◌, ◌-◌, ◌≤◌, ◌++◌, vec_len}
use Rattle.std.specs.Vec.{vec_capacity}
use Rattle.receive_window.specs.Inside.{from_number}
use Rattle.receive_window.specs.Window.{items_in_order}
use Rattle.receive_window.proofs.release.release.Given as goal

abbrev pub invariant-releasing : goal.invariant-releasing
invariant-releasing l = record {
  within : l.number ≤ l.to;
  room : vec_len l.items + (l.to - l.number) ≤ vec_capacity l.items;
  items : l.items.items ≡ l.fn.items.items
      ++ items_in_order l.fn.early.held (l.fn.early.base + 1) l.number;
  rest : l.early ≡ record l.fn.early { held = from_number l.number l.fn.early.held };
}
