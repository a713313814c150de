-- A feeder in memory before its first call.
use Rattle.std.specs.Prelude.{◌≡◌, None}
use Rattle.session_crews.specs.declared.counting_feeder.CountingFeeder.{CountingFeeder}

-- it gave nothing yet
abbrev pub IsFresh : CountingFeeder → Type 0
IsFresh f = (f.child ≡ None) × (f.given ≡ 0) × (f.came ≡ None)
