-- How the steps of a run are recorded.
use Rattle.std.specs.Prelude.{ℕ, Option, Some, None, List, [], ◌∷◌, ◌++◌, Result, MatchResult}
use Rattle.std.specs.Option.{option_map}
use Rattle.chan_values.specs.declared.side.Side.{Side}
use Rattle.channel_core.specs.World.{Event}
use Rattle.session_audit.specs.Journal.{journal, letter}
use Rattle.relay_core.specs.Messages.{closing, pause, start}
use Rattle.lab_script.specs.declared.outcome.Outcome.{Outcome}
use Rattle.lab_script.specs.declared.verb.Verb.{Verb}
use Rattle.lab_script.specs.declared.word.Which.{Which}
use Rattle.lab_run.specs.declared.pair.Pair.{Pair}
use Rattle.lab_run.specs.declared.stop.Stop.{Stop}
use Rattle.lab_run.specs.Ends.{IsPair}
use Rattle.lab_run.specs.Printing.{Adds, Printout, Stops}
use Rattle.lab_run.specs.Steps.{Step, events_of, id_of}
use Rattle.lab_relay.specs.Scene.{lab}
use Rattle.lab_journal.specs.Records.{step_records}

-- a call makes these steps behind this world, and adds their records to the journal
abbrev pub Records : {T : Type 0} → ℕ → Which → List Event → List Step → Result T Stop
    → Pair → Printout → Printout → Type 0
Records w which world steps result pair old new =
    MatchResult result
    (λ _. IsPair w (world ++ events_of steps) pair
    × Adds (journal (step_records which world steps)) old new)
    (λ stop. Stops (journal (step_records which world steps)) stop old new)

-- the record of what a pull reports
abbrev pub emission_record : Side → Outcome → Option (List ℕ)
emission_record side (Outcome.Emit k encoding) = Some (letter side ∷ 0 ∷ encoding)
emission_record side outcome = None

-- the record of a hearing of these bytes, if there are any
abbrev pub hearing_record : Side → Option (List ℕ) → Option (List ℕ)
hearing_record side kept = option_map (λ bytes. letter side ∷ 1 ∷ bytes) kept

-- the record of what a tick reports
abbrev pub tick_record : Side → Outcome → Option (List ℕ)
tick_record side (Outcome.GaveUp n) = Some (letter side ∷ 4 ∷ [])
tick_record side outcome = None

-- the record of what a line does with its verb, by what is kept of the emission that it means, by its
-- number, the moment and what is reported
abbrev pub verb_record : Verb → Option (List ℕ) → ℕ → ℕ → Side → Outcome → Option (List ℕ)
verb_record Verb.Pull kept line now side outcome = emission_record side outcome
verb_record Verb.Hear kept line now side outcome = hearing_record side kept
verb_record Verb.Pause kept line now side outcome =
    Some (letter side ∷ 1 ∷ pause (id_of line) now)
verb_record Verb.Start kept line now side outcome =
    Some (letter side ∷ 1 ∷ start (id_of line) now)
verb_record Verb.End kept line now side outcome =
    Some (letter side ∷ 1 ∷ closing lab (id_of line) now)
verb_record Verb.Open kept line now side outcome = Some (letter side ∷ 2 ∷ [])
verb_record Verb.Lost kept line now side outcome = Some (letter side ∷ 3 ∷ [])
verb_record Verb.Close kept line now side outcome = Some (letter side ∷ 4 ∷ [])
verb_record Verb.Tick kept line now side outcome = tick_record side outcome
verb_record verb kept line now side outcome = None
