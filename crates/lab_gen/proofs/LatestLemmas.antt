-- What a step leaves at an end that keeps the latest of its emissions alone.
use Rattle.std.proofs.Common.{◌≡◌, ℕ, ◌-◌, Result, IfOk, Option, Some, None, List, [], ◌∷◌, ◌++◌, length, slice_get, refl, sym, ap, subst, ◌∙◌, append-nil, arith}
use Rattle.std.proofs.lemmas.List.{length-append}
use Rattle.std.proofs.lemmas.Result.{IfOk-weaker}
use Rattle.chan_values.specs.declared.no_memory.NoMemory.{NoMemory}
use Rattle.chan_values.specs.declared.side.Side.{Side}
use Rattle.channel_core.specs.declared.call.EndAnswer.{EndAnswer}
use Rattle.channel_core.specs.declared.call.EndCall.{EndCall}
use Rattle.channel_core.specs.declared.answer.Pull.{Pull}
use Rattle.channel_core.specs.History.{emissions}
use Rattle.channel_core.specs.World.{Event, IsLegalWorld, history_of}
use Rattle.channel_core.proofs.PendingLemmas.{slice_get-last}
use Rattle.lab_script.specs.declared.outcome.Outcome.{Outcome}
use Rattle.lab_script.specs.declared.verb.Verb.{Verb}
use Rattle.lab_script.specs.declared.word.Which.{Which}
use Rattle.lab_run.specs.Ends.{HasSent, IsCalled}
use Rattle.lab_run.specs.Outcomes.{encodings_in, is_emission, outcome_of}
use Rattle.lab_run.specs.Steps.{Step, called, emission_at, events_of, heard_at}
use Rattle.lab_run.proofs.StepLemmas.{IsDue-called}
use Rattle.lab_gen.specs.declared.latest.Latest.{Latest}
use Rattle.lab_gen.specs.Ends.{IsLatest, MakesLatest, latest_after}

-- the number of an emission changes neither its bytes
encodings_in-number : (side : Side) (j k : ℕ) (answer : EndAnswer)
    → encodings_in (outcome_of side j answer) ≡ encodings_in (outcome_of side k answer)
encodings_in-number side j k (EndAnswer.Put answer) = refl
encodings_in-number side j k (EndAnswer.Heard answer) = refl
encodings_in-number side j k (EndAnswer.Tick answer) = refl
encodings_in-number side j k (EndAnswer.Pull (Pull.Emit out)) = refl
encodings_in-number side j k (EndAnswer.Pull Pull.Idle) = refl
encodings_in-number side j k (EndAnswer.Pull Pull.NoMemory) = refl
encodings_in-number side j k (EndAnswer.Look answer) = refl
encodings_in-number side j k EndAnswer.Done = refl

-- nor whether it is one
is_emission-number : (side : Side) (j k : ℕ) (answer : EndAnswer)
    → is_emission (outcome_of side j answer) ≡ is_emission (outcome_of side k answer)
is_emission-number side j k (EndAnswer.Put answer) = refl
is_emission-number side j k (EndAnswer.Heard answer) = refl
is_emission-number side j k (EndAnswer.Tick answer) = refl
is_emission-number side j k (EndAnswer.Pull (Pull.Emit out)) = refl
is_emission-number side j k (EndAnswer.Pull Pull.Idle) = refl
is_emission-number side j k (EndAnswer.Pull Pull.NoMemory) = refl
is_emission-number side j k (EndAnswer.Look answer) = refl
is_emission-number side j k EndAnswer.Done = refl

-- an end makes a step by a call, where memory is found
pub MakesLatest-called : (w : ℕ) (world : List Event) (line : ℕ) (verb : Verb) (side : Side)
    (call : EndCall) (j : ℕ) (old new : Latest) (r : Result Outcome NoMemory)
    → IsLegalWorld w world
    → IsLatest w side (history_of side world) old
    → IfOk r (IsCalled side j call old.end new.end)
    → new.emission ≡ old.emission
    → IfOk r (MakesLatest w world (called w world line verb side call) new)
MakesLatest-called w world line verb side call j old new r legal before told same =
    IfOk-weaker r _ _
    (λ outcome c.
    let k = length (emissions (history_of side world)) in
    let here = outcome_of side k c.answer in
    let again : IsCalled side k call old.end new.end here =
    record {
      answer = c.answer;
      follows = c.follows;
      memory = c.memory;
      told = refl;
      sendable = c.sendable;
    } in
    let due =
    IsDue-called w world line verb side call old.end new.end before.sent here legal before.done
    again in
    let bytes : encodings_in here ≡ encodings_in outcome =
    encodings_in-number side k j c.answer ∙ ap encodings_in (sym c.told) in
    let s = called w world line verb side call in
    let P : List (List ℕ) → Type 0 =
    λ more.
    HasSent w side (history_of side (world ++ events_of (s ∷ []))) new.end
    (before.sent ++ more) in
    record {
      told =
          ap is_emission c.told
          ∙ is_emission-number side j k c.answer
          ∙ ap is_emission due.told;
      sent = before.sent;
      done = subst P bytes due.sent;
      kept = same ∙ before.kept;
    })
    told

-- an end hears nothing where there is no emission
pub MakesLatest-absent : (w : ℕ) (world : List Event) (now line : ℕ) (side : Side)
    (latest : Latest)
    → IsLatest w side (history_of side world) latest
    → MakesLatest w world (heard_at w world now line side None) latest Outcome.Absent
MakesLatest-absent w world now line side latest before =
    record {
      told = refl;
      sent = before.sent;
      done = rw (append-nil, append-nil) before.done;
      kept = before.kept;
    }

-- what was added at the end is the latest
emission_at-last : (xs : List (List ℕ)) (x : List ℕ)
    → emission_at (xs ++ x ∷ []) Which.Last ≡ Some x
emission_at-last xs x =
    let place : length (xs ++ x ∷ []) - 1 ≡ length xs = omega (arith, length-append xs (x ∷ [])) in
    ap (slice_get (xs ++ x ∷ [])) place ∙ slice_get-last xs x

-- the latest of what was sent, with what is in an outcome behind it
emission_at-more : (sent : List (List ℕ)) (outcome : Outcome)
    → emission_at (sent ++ encodings_in outcome) Which.Last
    ≡ latest_after (emission_at sent Which.Last) outcome
emission_at-more sent (Outcome.Emit number encoding) = emission_at-last sent encoding
emission_at-more sent _ =
    ap (λ (xs : List (List ℕ)). emission_at xs Which.Last) (append-nil sent)

-- what was emitted is kept
pub IsLatest-kept : (w : ℕ) (world : List Event) (s : Step) (side : Side) (old new : Latest)
    (outcome : Outcome)
    → s.side ≡ side
    → MakesLatest w world s old outcome
    → new.end ≡ old.end
    → new.emission ≡ latest_after old.emission outcome
    → IsLatest w side (history_of side (world ++ events_of (s ∷ []))) new
IsLatest-kept w world s side old new outcome at made end kept =
    let longer = world ++ events_of (s ∷ []) in
    let P : Side → Type 0 = λ z. IsLatest w z (history_of z longer) new in
    subst P at
    (record {
      sent = made.sent ++ encodings_in outcome;
      done = rw end made.done;
      kept =
          kept
          ∙ ap (λ (o : Option (List ℕ)). latest_after o outcome) made.kept
          ∙ sym (emission_at-more made.sent outcome);
    })
