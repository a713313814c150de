-- When bytes are read as a body, by the faults that the table of the body finds in their object.
use Rattle.std.specs.Prelude.{◌≡◌, ◌⊎◌, ℕ, List, [], ◌∷◌, option_to_list, Some, Result, Ok, Err, IfOk, IfErr}
use Rattle.std.specs.List.{slice_get}
use Rattle.std.specs.Result.{result_err}
use Rattle.serde_json.specs.Data.{Data}
use Rattle.json_members.specs.Members.{object_of, UnlessNoMemory}
use Rattle.json_members.specs.declared.body_fault.BodyFault.{BodyFault}
use Rattle.json_members.specs.declared.body_fault.BodyFault.TheVariants.{NoMemory}

-- the fault of one member, if there is one
abbrev pub fault_in : {T : Type 0} → Result T BodyFault → List BodyFault
fault_in found = option_to_list (result_err found)

-- the fault of a member, or those inside of what it is
abbrev pub faults_within : {T : Type 0} → (T → List BodyFault) → Result T BodyFault
    → List BodyFault
faults_within inside (Ok value) = inside value
faults_within inside (Err fault) = fault ∷ []

-- the fault is the first of the faults, unless memory ran out; for private clauses
abbrev pub IsFirst : List BodyFault → BodyFault → Type 0
IsFirst faults fault = (slice_get faults 0 ≡ Some fault) ⊎ (fault ≡ NoMemory)

-- the bytes show the fault: they hold no object, or it is the first of their object's faults
abbrev pub Shows : (Data → List BodyFault) → List ℕ → BodyFault → Type 0
Shows faults bytes fault =
    (object_of bytes ≡ Err fault)
    ⊎ ((body : Data) × (object_of bytes ≡ Ok body) × (slice_get (faults body) 0 ≡ Some fault))

-- a value is answered exactly where the bytes are its body, a fault exactly where they show it
pub record IsReading {T : Type 0} (IsBody : T → Type 0) (IsShown : BodyFault → Type 0)
    (result : Result T BodyFault) : Type 0 where
  -- a value that is answered has the bytes as its body
  pub ok : IfOk result IsBody
  -- the value whose body the bytes are is answered
  pub body : (value : T) → IsBody value → UnlessNoMemory result (Ok value)
  -- a fault that is told is shown
  pub fault : IfErr result (λ fault. IsShown fault ⊎ (fault ≡ NoMemory))
  -- a fault that is shown is told
  pub shown : (fault : BodyFault) → IsShown fault → UnlessNoMemory result (Err fault)
