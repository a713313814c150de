-- A new end.
use Rattle.std.proofs.Common.{◌≡◌, ℕ, false, [], refl, arith, rules}
use Rattle.std.proofs.lemmas.List.Sorted.{IsPermutation-refl}
use Rattle.resend_queue.specs.Queue.{empty_queue}
use Rattle.resend_queue.specs.RoundTrips.{after_samples, no_sample}
use Rattle.receive_window.specs.Window.{empty_window}
use Rattle.channel_core.specs.Call.{with_earlier}
use Rattle.channel_core.specs.History.{acked_numbers, is_closed, is_paused, is_up, owed_acks, put_messages, taken_items, taken_messages}
use Rattle.channel_core.specs.Numbers.{least_absent}
use Rattle.channel_core.specs.Resending.{round_trip_samples}
use Rattle.channel_core.specs.Stands.{EndState, Stands}

-- a new end stands for no calls
pub stands_nil : (w : ℕ) (end : EndState)
    → end ≡ record {
      queue = empty_queue w;
      received = empty_window w;
      estimate = no_sample;
      owed = [];
      up = false;
      paused = false;
      closed = false;
    }
    → Stands w end []
unfolding put_messages acked_numbers taken_messages taken_items owed_acks is_up is_paused is_closed
    round_trip_samples with_earlier after_samples least_absent
stands_nil w end is = rw is (record {
  queue = refl;
  window = refl;
  expected = refl;
  early = IsPermutation-refl [];
  last = refl;
  estimate = refl;
  owed = refl;
  up = refl;
  paused = refl;
  closed = refl;
})
