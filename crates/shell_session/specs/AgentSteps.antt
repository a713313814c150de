-- What one call does with the agent's end of a shell session. No public clause cites this file.
use Rattle.std.specs.Prelude.{◌≡◌, ◌≤◌, ◌-◌, ◌==◌, ◌&&◌, ◌⊎◌, ℕ, ℤ, true, false, Option, Some, None, List, [], ◌∷◌, ◌++◌, length, Result, Ok, Err}
use Rattle.chan_io.specs.Faults.{Rises}
use Rattle.chan_ports.specs.Waits.{Waits}
use Rattle.chan_values.specs.Limits.{max_payload}
use Rattle.chan_values.specs.declared.item.Item.{Item}
use Rattle.handshake.specs.AgentState.{AgentFollows, AgentStands, Asks, is_asked, new_agent}
use Rattle.handshake.specs.declared.agent.AgentStage.{AgentStage}
use Rattle.handshake.specs.declared.agreed.Agreed.{Agreed}
use Rattle.handshake.specs.declared.step.Step.{Step}
use Rattle.session_feeds.specs.Sessions.{Account, puts_in}
use Rattle.session_feeds.specs.declared.session.SessionFault.{SessionFault}
use Rattle.session_feeds.specs.declared.session.Verdict.{Verdict}
use Rattle.session_run.specs.declared.parcel.Parcel.{Parcel}
use Rattle.shell_session.specs.Children.{ChildState, SameEnd, TookInput}
use Rattle.shell_session.specs.Items.{exit_item}
use Rattle.shell_session.specs.Parcels.{is_over, overs}
use Rattle.shell_session.specs.Verdicts.{AsksNothing, AsksToPut}

-- the side awaits the response, and has been given no item
abbrev pub IsWaiting : AgentStage → Type 0
IsWaiting stage = (choice : Agreed) × (moment : ℕ) × AgentStands choice moment stage []

module _ {F : Type 0} where
  -- the session is asked for, or memory was wanted
  abbrev pub Begins : ℕ → AgentStage → Result (Verdict F) SessionFault → AgentStage → Type 0
  Begins now old (Ok verdict) new =
      (item : Item)
      × AsksToPut item false false verdict
      × (length item.payload ≤ max_payload)
      × (is_asked new ≡ true)
      × ((choice : Agreed) → old ≡ new_agent choice → Asks choice now item new)
  Begins now old (Err SessionFault.NoMemory) new = Unit {0}
  Begins now old (Err fault) new = ⊥

  -- behind the last of its outputs a child is waited for, and its status is to be put in
  abbrev pub RunsOut : ChildState → Result (Verdict F) SessionFault → ChildState → Type 0
  RunsOut old (Ok verdict) new =
      (status : ℤ)
      × AsksToPut (exit_item status) true true verdict
      × (length (exit_item status).payload ≤ max_payload)
      × Waits (Ok status) old.statuses new.statuses
  RunsOut old (Err SessionFault.Child) new = Rises old.end_faults new.end_faults
  RunsOut old (Err SessionFault.NoMemory) new = Unit {0}
  RunsOut old (Err fault) new = ⊥

  -- what a child does with a parcel
  pub record Runs (parcel : Parcel) (old : ChildState) (result : Result (Verdict F) SessionFault)
      (new : ChildState) : Type 0 where
    pub input : (before : List Parcel)
        → TookInput before old
        → TookInput (before ++ parcel ∷ []) new
    pub feeding : new.feeding ≡ old.feeding - overs (parcel ∷ [])
    pub counted : old.end_faults ≤ new.end_faults
    pub goes :
        (((is_over parcel && (old.feeding == 1)) ≡ false)
        × SameEnd old new
        × ((verdict : Verdict F) × (result ≡ Ok verdict) × AsksNothing verdict))
        ⊎ (((is_over parcel && (old.feeding == 1)) ≡ true) × RunsOut old result new)

-- what a step of the handshake tells
abbrev pub told_step : Step → Result (Option Item) SessionFault
told_step (Step.Finish completion agreed) = Ok (Some completion)
told_step (Step.Refused why) = Err (SessionFault.Handshake why)
told_step (Step.NoMemory item) = Err SessionFault.NoMemory
told_step step = Ok None

-- what a parcel does while no child was started
abbrev pub Opens : ℕ → Parcel → AgentStage → Result (Option Item) SessionFault → AgentStage → Type 0
Opens now (Parcel.Arrived item) old result new =
    (step : Step) × AgentFollows old new item now step × (result ≡ told_step step)
Opens now parcel old result new = (result ≡ Ok None) × (new ≡ old)

-- an account with one parcel more, and what it was answered
abbrev pub taking : {F : Type 0} → Parcel → Result (Verdict F) SessionFault → Account ℕ → Account ℕ
taking parcel result a =
    record a { taken = a.taken ++ parcel ∷ []; given = a.given ++ puts_in result }
