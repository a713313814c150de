-- What holds of the steps of every side.
use Rattle.std.specs.Prelude.{◌≡◌, ℕ, List}
use Rattle.chan_values.specs.declared.item.Item.{Item}
use Rattle.handshake.specs.Agent.{IsAgentStep}
use Rattle.handshake.specs.Client.{IsClientStep}
use Rattle.handshake.specs.Steps.{IsAnswered}
use Rattle.handshake.specs.declared.agreed.Agreed.{Agreed}
use Rattle.handshake.specs.declared.step.Step.{Step}

-- behind the same items there is one step of a client with an item, where there is memory
abbrev pub ClientHasOneStep : Type 0
ClientHasOneStep =
    (version : List ℕ) (before : List Item) (item : Item) (a b : Step)
    → IsAnswered a
    → IsAnswered b
    → IsClientStep version before item a
    → IsClientStep version before item b
    → a ≡ b

-- behind the same items there is one step of an agent with an item at a moment, where there is
-- memory
abbrev pub AgentHasOneStep : Type 0
AgentHasOneStep =
    (choice : Agreed) (asked : ℕ) (before : List Item) (item : Item) (now : ℕ) (a b : Step)
    → IsAnswered a
    → IsAnswered b
    → IsAgentStep choice asked before item now a
    → IsAgentStep choice asked before item now b
    → a ≡ b
