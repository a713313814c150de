-- What holds of the steps of both sides.
use Rattle.std.specs.Prelude.{◌≢◌, ◌≤◌, List, [], ◌∷◌, ◌++◌, length}
use Rattle.chan_values.specs.Limits.{max_payload}
use Rattle.chan_values.specs.declared.item.Item.{Item}
use Rattle.json_members.specs.declared.body_fault.BodyFault.{BodyFault}
use Rattle.handshake.specs.declared.step.Step.{Step}
use Rattle.handshake.specs.declared.step.Why.{Why}

-- the items given so far with one more: an item for which there was no memory is not given
abbrev pub items_after : List Item → Item → Step → List Item
items_after before item (Step.NoMemory back) = before
items_after before item step = before ++ item ∷ []

-- what a step gives out fits a message, and a refusal is never want of memory
abbrev pub IsSound : Step → Type 0
IsSound (Step.Put out) = length out.payload ≤ max_payload
IsSound (Step.Finish out agreed) = length out.payload ≤ max_payload
IsSound (Step.Refused why) = why ≢ Why.Body BodyFault.NoMemory
IsSound step = Unit {0}

-- a fact of a step for which there was no memory
abbrev pub OnNoMemory : Step → Type 0 → Type 0
OnNoMemory (Step.NoMemory back) P = P
OnNoMemory step P = Unit {0}

-- there was memory for the step
abbrev pub IsAnswered : Step → Type 0
IsAnswered (Step.NoMemory back) = ⊥
IsAnswered step = Unit {0}
