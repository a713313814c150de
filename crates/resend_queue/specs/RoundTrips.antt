-- The round-trip estimator of RFC 6298, section 2, in whole milliseconds, with gains 1/8 and 1/4.
use Rattle.std.specs.Prelude.{ℕ, ◌+◌, ◌-◌, ◌/◌, min, max, List}
use Rattle.std.specs.List.{fold}
use Rattle.std.specs.Int.{abs_diff}

-- what the samples so far make of the round trip
pub record RoundTrip : Type 0 where
  -- eight times the smoothed round-trip time, SRTT
  pub srtt8 : ℕ
  -- four times the mean deviation, RTTVAR
  pub var4 : ℕ
  -- the retransmission timeout, RTO
  pub timeout : ℕ

-- before the first sample; this timeout isn't what the formula of a sample gives
abbrev pub no_sample : RoundTrip
no_sample = record { srtt8 = 800; var4 = 0; timeout = 200 }

-- after a sample, of which at most 600,000 count; the deviation is that from the old smoothed time
abbrev pub after_sample : RoundTrip → ℕ → RoundTrip
after_sample before sample =
    let round_trip = min sample 600000 in
    let var4 = before.var4 - before.var4 / 4 + abs_diff (before.srtt8 / 8) round_trip in
    let srtt8 = before.srtt8 - before.srtt8 / 8 + round_trip in
    record { srtt8 = srtt8; var4 = var4; timeout = min 1000 (srtt8 / 8 + max 10 var4) }

-- after these samples, in order
unfoldable pub after_samples : List ℕ → RoundTrip
after_samples samples = fold after_sample no_sample samples
