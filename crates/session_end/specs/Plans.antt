-- What is made before the workers of a run are.
use Rattle.std.specs.Prelude.{◌≡◌, ℕ, List}
use Rattle.turn_lock.specs.Seats.{IsFirstSeat}
use Rattle.session_end.specs.declared.plan.Plan.{Plan}
use Rattle.session_end.specs.declared.setup.Setup.{Setup}
use Rattle.session_end.specs.Setups.{first_token, setting_of}

-- the plan is that of a run with this base: its locks are over a new end and an empty shelf
pub record IsPlanOf (setup : Setup) (base : List ℕ) (plan : Plan) : Type 0 where
  pub setting : plan.setting ≡ setting_of setup base
  pub token : plan.token ≡ first_token setup
  pub end : IsFirstSeat plan.shared.ends setup.window plan.main
  pub shelf : IsFirstSeat plan.shared.shelf tt plan.shelf_main

-- the plan is that of some run
abbrev pub IsPlan : Plan → Type 0
IsPlan plan = (setup : Setup) × (base : List ℕ) × IsPlanOf setup base plan
