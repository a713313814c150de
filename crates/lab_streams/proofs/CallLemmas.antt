-- What a call of a Mux leaves.
use Rattle.std.proofs.Common.{◌≡◌, ◌≢◌, ◌≤◌, ℕ, Bool, true, ⊎_elim, Result, Ok, Err, IfOk, Option, Some, None, List, [], ◌∷◌, ◌++◌, length, map, take, drop, refl, sym, ap, subst, ◌∙◌, append_assoc, append-nil, arith}
use Rattle.std.proofs.Math.Seq.{drop-append_seam}
use Rattle.std.proofs.lemmas.List.{length-take, take-append-drop}
use Rattle.std.specs.Result.{result_ok}
use Rattle.std.proofs.lemmas.Result.{IfOk-weaker}
use Rattle.chan_values.specs.declared.no_memory.NoMemory.{NoMemory}
use Rattle.chan_values.specs.declared.side.Side.{Side}
use Rattle.chan_values.specs.declared.side.Side.TheVariants.{Plugin, Agent}
use Rattle.chan_values.specs.Sides.{other}
use Rattle.lab_script.specs.declared.outcome.Outcome.{Outcome}
use Rattle.lab_script.specs.declared.verb.Verb.{Verb}
use Rattle.smux_streams.specs.declared.answers.Fed.{Fed}
use Rattle.smux_acts.specs.declared.event.Event.{Event}
use Rattle.smux_store.specs.declared.answers.Open.{Open}
use Rattle.smux_store.specs.declared.answers.Taken.{Taken}
use Rattle.smux_streams.specs.declared.answers.Write.{Write}
use Rattle.smux_streams.specs.Call.{Entry, Closes, Feeds, Opens, Outs, Takes, Writes}
use Rattle.smux_streams.specs.Laws.{IsLegalPair}
use Rattle.smux_streams.specs.History.{acts_of, consumed, consumed_in, given, left, seen}
use Rattle.smux_streams.specs.Legal.{IsAnswered, IsLegal, feed_answer, open_answer, take_answer, write_answer}
use Rattle.smux_streams.specs.Stands.{Follows, Stands}
use Rattle.smux_streams.proofs.Pairs.{consumed_push, legal_push}
use Rattle.lab_streams.specs.declared.carrier.Carrier.{Carrier}
use Rattle.lab_streams.specs.declared.link.Link.{Link}
use Rattle.lab_streams.specs.Ends.{FeedsKept, GivesOut, IsCarrier, IsFed, IsLink, MakesStep, carrier_of}
use Rattle.lab_streams.specs.Outcomes.{outcome_of_open, outcome_of_taken, outcome_of_write}
use Rattle.lab_streams.specs.Steps.{Past, Told, after, arrived, close_step, feed_step, is_client, mux_history, mux_step, open_step, take_step, told_of_event, told_once, waiting, with_call, write_step}
use Rattle.lab_streams.proofs.MuxLemmas.{IsLegalPair-by, mux_history-here, mux_history-there}
use Rattle.lab_streams.proofs.PastLemmas.{past_by}

-- a step that is a call of a Mux
pub after-mux : (past : Past) (line : ℕ) (side : Side) (e : Entry) (told : List Told)
    → after past (mux_step line side e told ∷ []) ≡ with_call past side e
after-mux past line side e told = past_by _ _ _ _ (append-nil past.events) refl

-- one side of the link made a call
pub record Asks (client : Bool) (e : Entry) (old new : Carrier) : Type 0 where
  pub follows : Follows old.mux new.mux e
  pub kept : consumed_in e ++ new.left ≡ old.left

-- one side made it, and nothing else changed
pub record AsksAt (side : Side) (e : Entry) (old new : Link) : Type 0 where
  pub here : Asks (is_client side) e (carrier_of side old) (carrier_of side new)
  pub there : carrier_of (other side) new ≡ carrier_of (other side) old

-- it is one call more of its history
carrier_calls : (client : Bool) (g : List Entry) (came : List ℕ) (e : Entry) (old new : Carrier)
    → IsCarrier client g came old
    → Stands client new.mux (g ++ e ∷ [])
    → consumed_in e ++ new.left ≡ old.left
    → IsCarrier client (g ++ e ∷ []) came new
carrier_calls client g came e old new before stands kept =
    record {
      stands = stands;
      kept =
          ap (λ (l : List ℕ). l ++ new.left) (consumed_push g e)
          ∙ append_assoc (consumed g) (consumed_in e) new.left
          ∙ ap (λ (l : List ℕ). consumed g ++ l) kept
          ∙ before.kept;
    }

-- the ends and both sides
pub link_of : (past : Past) (new : Link) (side : Side)
    → IsCarrier (is_client side) (mux_history side past) (arrived side past)
    (carrier_of side new)
    → IsCarrier (is_client (other side)) (mux_history (other side) past) (arrived (other side) past)
    (carrier_of (other side) new)
    → IsLegalPair past.calls
    → IsLink past new
link_of past new Plugin here there legal =
    record { legal = legal; plugin = here; agent = there }
link_of past new Agent here there legal =
    record { legal = legal; plugin = there; agent = here }

-- one side of the link, of the two
pub carrier_at : (past : Past) (link : Link) (side : Side) → IsLink past link
    → IsCarrier (is_client side) (mux_history side past) (arrived side past)
    (carrier_of side link)
carrier_at past link Plugin is = is.plugin
carrier_at past link Agent is = is.agent

-- what is left by a call of the Mux of a side
pub record CallLeaves (past : Past) (side : Side) (e : Entry) (new : Link) : Type 0 where
  pub made : IsLink (with_call past side e) new
  pub answered :
      let g = mux_history side past in
      IsAnswered (is_client side) (given g) (seen (is_client side) g) e

pub call_leaves : (past : Past) (side : Side) (e : Entry) (old new : Link)
    → IsLink past old
    → AsksAt side e old new
    → CallLeaves past side e new
call_leaves past side e old new is asks =
    let client = is_client side in
    let far = other side in
    let g = mux_history side past in
    let longer = with_call past side e in
    let before = carrier_at past old side is in
    let away = carrier_at past old far is in
    let follows = asks.here.follows client g (is.legal client) before.stands in
    let here = mux_history-here past side e in
    let there = mux_history-there past side e in
    let P : List Entry → Type 0 = λ h. IsCarrier client h (arrived side past) (carrier_of side new) in
    let Q : List Entry → Type 0 =
    λ h. IsCarrier (is_client far) h (arrived far past) (carrier_of far new) in
    let R : Carrier → Type 0 =
    λ c. IsCarrier (is_client far) (mux_history far past) (arrived far past) c in
    record {
      made =
          link_of longer new side
          (subst P (sym here)
          (carrier_calls client g (arrived side past) e (carrier_of side old) (carrier_of side new)
          before follows.1 asks.here.kept))
          (subst Q (sym there) (subst R (sym asks.there) away))
          (IsLegalPair-by longer side
          (subst (λ (h : List Entry). IsLegal client h) (sym here) follows.0)
          (subst (λ (h : List Entry). IsLegal (is_client far) h) (sym there)
          (is.legal (is_client far))));
      answered = (legal_push client g e follows.0).1.1;
    }

-- the step of such a call
made_by : (past : Past) (line : ℕ) (side : Side) (e due : Entry) (told : List Told)
    (new : Link)
    → CallLeaves past side e new
    → e ≡ due
    → IsLink (after past (mux_step line side due told ∷ [])) new
made_by past line side e due told new leaves is =
    let P : Past → Type 0 = λ p. IsLink p new in
    subst P (sym (after-mux past line side due told))
    (subst (λ (x : Entry). IsLink (with_call past side x) new) is leaves.made)

made_step : (past : Past) (line : ℕ) (side : Side) (e due : Entry) (verb : Verb)
    (named : Option Side) (told outcome : Outcome) (new : Link)
    → CallLeaves past side e new
    → e ≡ due
    → outcome ≡ told
    → MakesStep past (mux_step line side due (told_once verb named told)) verb named new outcome
made_step past line side e due verb named told outcome new leaves is said =
    record {
      told = ap (told_once verb named) (sym said);
      made = made_by past line side e due (told_once verb named told) new leaves is;
    }

-- a stream was opened, or not
pub MakesStep-open : (past : Past) (line : ℕ) (answer : Open) (old new : Link)
    (r : Result Outcome NoMemory)
    → IsLink past old
    → AsksAt Plugin (Opens answer) old new
    → IfOk r (λ outcome. (outcome ≡ outcome_of_open answer) × (answer ≢ Open.NoMemory))
    → IfOk r (MakesStep past (open_step past line) Verb.StreamOpen None new)
MakesStep-open past line answer old new r is asks told =
    let leaves = call_leaves past Plugin (Opens answer) old new is asks in
    let g = mux_history Plugin past in
    let due = open_answer (given g) (acts_of true g) in
    IfOk-weaker r _ _
    (λ outcome t.
    let same : answer ≡ due = ⊎_elim (λ e. e) (λ none. absurd (t.1 none)) leaves.answered.1 in
    made_step past line Plugin (Opens answer) (Opens due) Verb.StreamOpen None (outcome_of_open due)
    outcome new leaves (ap Opens same) (t.0 ∙ ap outcome_of_open same))
    told

-- bytes were written, or not
pub MakesStep-write : (past : Past) (line : ℕ) (side : Side) (sid : ℕ) (bytes : List ℕ)
    (answer : Write) (old new : Link) (r : Result Outcome NoMemory)
    → IsLink past old
    → AsksAt side (Writes sid bytes answer) old new
    → IfOk r (λ outcome. (outcome ≡ outcome_of_write answer) × (answer ≢ Write.NoMemory))
    → IfOk r (MakesStep past (write_step past line side sid bytes) Verb.StreamWrite (Some side) new)
MakesStep-write past line side sid bytes answer old new r is asks told =
    let leaves = call_leaves past side (Writes sid bytes answer) old new is asks in
    let g = mux_history side past in
    let due = write_answer (given g) (acts_of (is_client side) g) sid (length bytes) in
    IfOk-weaker r _ _
    (λ outcome t.
    let same : answer ≡ due = ⊎_elim (λ e. e) (λ none. absurd (t.1 none)) leaves.answered in
    made_step past line side (Writes sid bytes answer) (Writes sid bytes due) Verb.StreamWrite
    (Some side) (outcome_of_write due) outcome new leaves (ap (Writes sid bytes) same)
    (t.0 ∙ ap outcome_of_write same))
    told

-- a stream was closed, or not
pub MakesStep-close : (past : Past) (line : ℕ) (side : Side) (sid : ℕ)
    (answer : Write) (old new : Link) (r : Result Outcome NoMemory)
    → IsLink past old
    → AsksAt side (Closes sid answer) old new
    → IfOk r (λ outcome. (outcome ≡ outcome_of_write answer) × (answer ≢ Write.NoMemory))
    → IfOk r (MakesStep past (close_step past line side sid) Verb.StreamClose (Some side) new)
MakesStep-close past line side sid answer old new r is asks told =
    let leaves = call_leaves past side (Closes sid answer) old new is asks in
    let g = mux_history side past in
    let due = write_answer (given g) (acts_of (is_client side) g) sid 0 in
    IfOk-weaker r _ _
    (λ outcome t.
    let same : answer ≡ due = ⊎_elim (λ e. e) (λ none. absurd (t.1 none)) leaves.answered in
    made_step past line side (Closes sid answer) (Closes sid due) Verb.StreamClose
    (Some side) (outcome_of_write due) outcome new leaves (ap (Closes sid) same)
    (t.0 ∙ ap outcome_of_write same))
    told

-- bytes of a stream were taken, or not
pub MakesStep-take : (past : Past) (line : ℕ) (side : Side) (sid most : ℕ)
    (answer : Taken) (old new : Link) (r : Result Outcome NoMemory)
    → IsLink past old
    → AsksAt side (Takes sid most answer) old new
    → IfOk r (λ outcome. (outcome ≡ outcome_of_taken answer) × (answer ≢ Taken.NoMemory))
    → IfOk r (MakesStep past (take_step past line side sid most) Verb.StreamTake (Some side) new)
MakesStep-take past line side sid most answer old new r is asks told =
    let leaves = call_leaves past side (Takes sid most answer) old new is asks in
    let due = take_answer (acts_of (is_client side) (mux_history side past)) sid most in
    IfOk-weaker r _ _
    (λ outcome t.
    let same : answer ≡ due = ⊎_elim (λ e. e) (λ none. absurd (t.1 none)) leaves.answered in
    made_step past line side (Takes sid most answer) (Takes sid most due) Verb.StreamTake
    (Some side) (outcome_of_taken due) outcome new leaves (ap (Takes sid most) same)
    (t.0 ∙ ap outcome_of_taken same))
    told

-- a Mux gave out what it has
pub GivesOut-call : (past : Past) (side : Side) (most : ℕ) (old new : Link)
    (r : Result (List ℕ) NoMemory)
    → IsLink past old
    → AsksAt side (Outs most (result_ok r)) old new
    → IfOk r (GivesOut past side most new)
GivesOut-call past side most old new (Ok bytes) is asks =
    let leaves = call_leaves past side (Outs most (Some bytes)) old new is asks in
    record {
      given = ⊎_elim (λ e. cc) (λ none. absurd (cc)) leaves.answered;
      made = leaves.made;
    }
GivesOut-call past side most old new (Err e) is asks = tt

-- at most as much as was asked for
pub GivesOut-bounded : (past : Past) (side : Side) (most : ℕ) (link : Link)
    (r : Result (List ℕ) NoMemory)
    → IfOk r (GivesOut past side most link)
    → IfOk r (λ bytes. length bytes ≤ most)
GivesOut-bounded past side most link r gives =
    IfOk-weaker r _ _
    (λ bytes g.
    let all = left (given (mux_history side past)) (acts_of (is_client side) (mux_history side past))
    in
    let size : length bytes ≡ length (take most all) = ap length g.given in
    omega (arith, size, length-take most all))
    gives

-- a Mux was fed what was kept
pub IsFed-call : (past : Past) (line : ℕ) (side : Side) (events : List Event)
    (old new : Link)
    → IsLink past old
    → FeedsKept (carrier_of side old) (carrier_of side new) events
    → carrier_of (other side) new ≡ carrier_of (other side) old
    → IsFed past line side new events
IsFed-call past line side events old new is feeds there =
    let client = is_client side in
    let g = mux_history side past in
    let kept = (carrier_of side old).left in
    let before = carrier_at past old side is in
    let asks : AsksAt side (Feeds kept (Some feeds.fed)) old new = record {
      here = record {
        follows = feeds.follows;
        kept =
            ap (λ (l : List ℕ). take feeds.fed.consumed kept ++ l) feeds.rest
            ∙ take-append-drop feeds.fed.consumed kept;
      };
      there = there;
    } in
    let leaves = call_leaves past side (Feeds kept (Some feeds.fed)) old new is asks in
    let answer : List ℕ → Fed = λ bytes. feed_answer client (given g) (seen client g) bytes in
    let waits : kept ≡ waiting side past =
    sym (ap (drop (length (consumed g))) (sym before.kept) ∙ drop-append_seam (consumed g) kept) in
    let due : feeds.fed ≡ answer kept =
    ⊎_elim (λ e. some_is e) (λ none. absurd (some_is_none none)) leaves.answered in
    let same : feeds.fed ≡ answer (waiting side past) = due ∙ ap answer waits in
    let entry : Feeds kept (Some feeds.fed)
    ≡ Feeds (waiting side past) (Some (answer (waiting side past))) =
    ap (λ (b : List ℕ). Feeds b (Some feeds.fed)) waits
    ∙ ap (λ (f : Fed). Feeds (waiting side past) (Some f)) same in
    record {
      told =
          ap (λ (f : Fed). map (told_of_event side) f.events) (sym same)
          ∙ ap (map (told_of_event side)) (sym feeds.told);
      made =
          made_by past line side (Feeds kept (Some feeds.fed))
          (Feeds (waiting side past) (Some (answer (waiting side past))))
          (feed_step past line side).told new leaves entry;
    }
  where
    some_is : {x y : Fed} → Some x ≡ Some y → x ≡ y
    some_is e = cc

    some_is_none : {x : Fed} → Some x ≡ None → ⊥
    some_is_none e = cc
