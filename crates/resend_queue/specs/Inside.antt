-- What the fields of a queue stand for and keep to. No public clause cites this file.
use Rattle.std.specs.Prelude.{◌≡◌, ℕ, ◌+◌, ◌^◌, ◌<◌, ◌≤◌, ◌==◌, ◌&&◌, Bool, true, nat_lt, List, length, map, All, IsSome}
use Rattle.chan_values.specs.Limits.{max_payload, max_window}
use Rattle.slot_ring.specs.Ring.{Ring, value_with}
use Rattle.resend_queue.specs.declared.slot.Slot.{Slot}
use Rattle.resend_queue.specs.Queue.{Pending, max_dues}

-- a message with its number: the numbers below the cursor were transmitted since the last reopening,
-- and the lowest one alone may be marked due
abbrev pub pending_of : ℕ → ℕ → Bool → ℕ × Slot → Pending
pending_of low cursor due e =
    record {
      seq = e.0;
      id = e.1.id;
      date = e.1.date;
      item = e.1.item;
      last = e.1.last;
      emitted = e.1.emitted;
      sent = nat_lt e.0 cursor;
      due = due && e.0 == low;
    }

-- the messages of a ring, by number
abbrev pub messages : ℕ → Bool → Ring Slot → List Pending
messages cursor due ring = map (pending_of ring.base cursor due) ring.held

-- a number below the next one, with a message that can be transmitted
pub record IsKept (next : ℕ) (e : ℕ × Slot) : Type 0 where
  pub below : e.0 < next
  pub dated : 0 < e.1.date
  pub short : length e.1.item.payload ≤ max_payload

-- the ring begins at the lowest unacknowledged number, or at the next one, and has room for the
-- window; each message in it can be transmitted
pub record IsRetransmissionQueue
    (window next cursor : ℕ) (due : Bool) (dues : ℕ) (ring : Ring Slot)
    : Type 0 where
  pub narrow : 1 ≤ window
  pub wide : window ≤ max_window
  pub numbers : next < 2 ^ 63
  pub span : next ≤ ring.base + window
  pub begun : ring.base ≤ cursor
  pub passed : cursor ≤ next
  pub lowest : ring.base < next → IsSome (value_with ring.held ring.base)
  pub kept : All (IsKept next) ring.held
  pub marked : due ≡ true → ring.base < next
  pub marks : dues ≤ max_dues
  pub room : ring.capacity ≡ window
