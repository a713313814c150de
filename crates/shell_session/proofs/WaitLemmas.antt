-- What a step of an agent's side is while it awaits the response.
use Rattle.std.proofs.Common.{◌≡◌, ℕ, Bool, true, false, Option, Some, None, Result, Ok, Err, ◌⊎◌, inl, inr, [], ◌∷◌, sym, refl, ap, ◌∙◌, subst, true≢false}
use Rattle.std.proofs.lemmas.Bool.{false≢true}
use Rattle.std.proofs.lemmas.Option.{none-some}
use Rattle.chan_values.specs.declared.item.Item.{Item}
use Rattle.handshake.specs.Agent.{AgentRefuses, IsAgentStep, IsConsent}
use Rattle.handshake.specs.AgentState.{AgentStands, is_asked, new_agent}
use Rattle.handshake.specs.Items.{completion_item}
use Rattle.handshake.specs.declared.agent.AgentStage.{AgentStage}
use Rattle.handshake.specs.declared.agreed.Agreed.{Agreed}
use Rattle.handshake.specs.declared.step.Step.{Step}
use Rattle.handshake.specs.declared.step.Why.{Why}
use Rattle.session_feeds.specs.Sessions.{refusal_in}
use Rattle.session_feeds.specs.declared.session.SessionFault.{SessionFault}
use Rattle.session_feeds.specs.declared.session.Verdict.{Verdict}
use Rattle.session_run.specs.declared.parcel.Parcel.{Parcel}
use Rattle.shell_session.specs.AgentSteps.{Begins, IsWaiting, Opens, told_step}

abbrev pub Told : Type 0
Told = Result (Option Item) SessionFault

-- whether nothing comes of a parcel, and what else does
abbrev pub is_passed : Told → Bool
is_passed (Ok None) = true
is_passed told = false

abbrev pub is_taken : Told → Bool
is_taken (Ok told) = true
is_taken (Err fault) = false

abbrev pub fault_in : Told → SessionFault
fault_in (Ok told) = SessionFault.NoMemory
fault_in (Err fault) = fault

abbrev pub item_in : Item → Told → Item
item_in other (Ok (Some item)) = item
item_in other told = other

-- ---- what a step of a handshake is, behind the request

pub passes_never : (choice : Agreed) (moment now : ℕ) (item : Item) (step : Step)
    → IsAgentStep choice moment [] item now step
    → Ok None ≡ told_step step
    → ⊥
passes_never choice moment now item (Step.Finish out agreed) is told =
    true≢false (ap is_passed told)
passes_never choice moment now item (Step.Pass back) is told = is.1
passes_never choice moment now item (Step.Refused why) is told = true≢false (ap is_passed told)
passes_never choice moment now item (Step.NoMemory back) is told = true≢false (ap is_passed told)
passes_never choice moment now item (Step.Put out) is told = is
passes_never choice moment now item (Step.Done agreed) is told = is

-- why it refuses
pub refuses : (choice : Agreed) (moment now : ℕ) (item : Item) (fault : SessionFault) (step : Step)
    → IsAgentStep choice moment [] item now step
    → Err fault ≡ told_step step
    → ((why : Why) × (fault ≡ SessionFault.Handshake why) × AgentRefuses (item ∷ []) why)
    ⊎ (fault ≡ SessionFault.NoMemory)
refuses choice moment now item fault (Step.Finish out agreed) is told =
    absurd (false≢true (ap is_taken told))
refuses choice moment now item fault (Step.Pass back) is told = absurd is.1
refuses choice moment now item fault (Step.Refused why) is told = inl (why, ap fault_in told, is)
refuses choice moment now item fault (Step.NoMemory back) is told = inr (ap fault_in told)
refuses choice moment now item fault (Step.Put out) is told = absurd is
refuses choice moment now item fault (Step.Done agreed) is told = absurd is

-- it makes the handshake done
pub agrees : (choice : Agreed) (moment now : ℕ) (item completion : Item) (step : Step)
    → IsAgentStep choice moment [] item now step
    → Ok (Some completion) ≡ told_step step
    → IsConsent item × (completion ≡ completion_item moment now)
agrees choice moment now item completion (Step.Finish out agreed) is told =
    (is.1, ap (item_in completion) told ∙ is.2)
agrees choice moment now item completion (Step.Pass back) is told = absurd is.1
agrees choice moment now item completion (Step.Refused why) is told =
    absurd (true≢false (ap is_taken told))
agrees choice moment now item completion (Step.NoMemory back) is told =
    absurd (true≢false (ap is_taken told))
agrees choice moment now item completion (Step.Put out) is told = absurd is
agrees choice moment now item completion (Step.Done agreed) is told = absurd is

-- ---- a side that awaits the response

stands_asked : (choice : Agreed) (moment : ℕ) (stage : AgentStage)
    → AgentStands choice moment stage []
    → is_asked stage ≡ true
stands_asked choice moment (AgentStage.Unasked session) stands = absurd stands
stands_asked choice moment (AgentStage.ExpectResponse session asked) stands = refl
stands_asked choice moment AgentStage.Done stands = absurd stands
stands_asked choice moment (AgentStage.Refused why) stands = absurd stands

pub waits_asked : (stage : AgentStage) → IsWaiting stage → is_asked stage ≡ true
waits_asked stage waits = stands_asked waits.0 waits.1 stage waits.2

unasked_choice : (stage : AgentStage)
    → is_asked stage ≡ false
    → (choice : Agreed) × (stage ≡ new_agent choice)
unasked_choice (AgentStage.Unasked choice) fresh = (choice, refl)
unasked_choice (AgentStage.ExpectResponse session asked) fresh = absurd (true≢false fresh)
unasked_choice AgentStage.Done fresh = absurd (true≢false fresh)
unasked_choice (AgentStage.Refused why) fresh = absurd (true≢false fresh)

-- it does once the session was asked for
pub begins_waits : {F : Type 0} (now : ℕ) (old new : AgentStage)
    → (result : Result (Verdict F) SessionFault)
    → is_asked old ≡ false
    → Begins now old result new
    → refusal_in result ≡ None
    → IsWaiting new
begins_waits now old new (Ok verdict) fresh begins on =
    let choice = unasked_choice old fresh in
    (choice.0, now, (begins.4 choice.0 choice.1).stands)
begins_waits now old new (Err fault) fresh begins on = absurd (none-some fault (sym on))

-- and still where nothing came of a parcel
pub opens_waits : (now : ℕ) (p : Parcel) (old new : AgentStage)
    → IsWaiting old
    → Opens now p old (Ok None) new
    → IsWaiting new
opens_waits now (Parcel.Arrived item) old new waits o =
    absurd (passes_never waits.0 waits.1 now item o.0 (o.1 waits.0 waits.1 [] waits.2).0 o.2)
opens_waits now Parcel.Finished old new waits o = subst IsWaiting (sym o.1) waits
opens_waits now Parcel.Over old new waits o = subst IsWaiting (sym o.1) waits

-- the item by which a handshake is done is no item of a session
pub completes : (now : ℕ) (p : Parcel) (old new : AgentStage) (completion : Item)
    → IsWaiting old
    → Opens now p old (Ok (Some completion)) new
    → completion.ptype ≡ 7
completes now (Parcel.Arrived item) old new completion waits o =
    ap (λ (i : Item). i.ptype) (agrees waits.0 waits.1 now item completion o.0
    (o.1 waits.0 waits.1 [] waits.2).0 o.2).1
completes now Parcel.Finished old new completion waits o = absurd (false≢true (ap is_passed o.0))
completes now Parcel.Over old new completion waits o = absurd (false≢true (ap is_passed o.0))
