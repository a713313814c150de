-- The loops over the objects of a list: one more that is read, and one more that is written.
use Rattle.std.proofs.Common.{◌≡◌, ℕ, ◌<◌, ◌+◌, List, [], ◌∷◌, ◌++◌, length, get_or, take, drop, map, flat_map}
use Rattle.std.specs.List.{AllZip}
use Rattle.serde_json.specs.Data.{Data}
use Rattle.serde_json.specs.View.{view}
use Rattle.serde_json.specs.declared.value.Value.{Value}
use Rattle.json_bodies.specs.Reading.{IsFirst}
use Rattle.json_members.specs.declared.body_fault.BodyFault.{BodyFault}
use Rattle.json_members.proofs.ListLemmas.{map_split, map_taken}
use Rattle.json_bodies.proofs.NestedLemmas.{AllZip-more, all_faultless, first_of_list}
use Rattle.json_bodies.proofs.ReadingLemmas.{IsTable}

-- ---- reading

module _ {T : Type 0} {Gives : Data → T → Type 0} {faults : Data → List BodyFault} (table : IsTable Gives faults)
    (objects : List Value) (values : List T) (i : ℕ) (object : Value) (within : i < length objects) (is : object ≡ get_or objects i object)
    (given : AllZip Gives (map view (take i objects)) values) where
  -- a fault of the object is the first of all, since those before have none
  pub fault_in_list : (fault : BodyFault) → IsFirst (faults (view object)) fault → IsFirst (flat_map faults (map view objects)) fault
  fault_in_list fault first =
      let before = map view (take i objects) in
      let none = all_faultless Gives faults table.faultless before values given in
      rw (map_split view objects i object within is)
      (first_of_list faults before (map view (drop (i + 1) objects)) (view object) fault none first)

  pub given_in_list : (value : T) → Gives (view object) value → AllZip Gives (map view (take (i + 1) objects)) (values ++ value ∷ [])
  given_in_list value gives =
      rw (map_taken view objects i object within is)
      (AllZip-more Gives (map view (take i objects)) values (view object) value given gives)
