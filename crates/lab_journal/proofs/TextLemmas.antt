-- The records of steps, one after another.
use Rattle.std.proofs.Common.{◌≡◌, ℕ, Option, Some, None, Result, List, [], ◌∷◌, ◌++◌, refl, sym, ap, subst, ◌∙◌, append-nil}
use Rattle.std.specs.List.{cons_option}
use Rattle.std.proofs.lemmas.Grind.{flat_map-append}
use Rattle.std.proofs.lemmas.Result.{MatchResult-weaker}
use Rattle.channel_core.specs.World.{Event}
use Rattle.session_audit.specs.Journal.{framed, journal}
use Rattle.lab_script.specs.declared.word.Which.{Which}
use Rattle.lab_run.specs.declared.pair.Pair.{Pair}
use Rattle.lab_run.specs.declared.stop.Stop.{Stop}
use Rattle.lab_run.specs.Ends.{IsPair}
use Rattle.lab_run.specs.Printing.{Adds, Printout, Prints, Stops}
use Rattle.lab_run.specs.Steps.{Step, events_of}
use Rattle.lab_run.proofs.PassLemmas.{IsPair-then, world-then}
use Rattle.lab_run.proofs.WritingLemmas.{Adds-then, Stops-longer, Stops-then}
use Rattle.lab_journal.specs.Recording.{Records}
use Rattle.lab_journal.specs.Records.{step_record, step_records}

-- more records are more of a journal
pub journal-append : (a b : List (List ℕ)) → journal (a ++ b) ≡ journal a ++ journal b
journal-append a b = flat_map-append framed a b

cons_option-append : {X : Type 0} (o : Option X) (xs ys : List X)
    → cons_option o xs ++ ys ≡ cons_option o (xs ++ ys)
cons_option-append None xs ys = refl
cons_option-append (Some x) xs ys = refl

-- the records of steps, and of more behind them
pub step_records-append : (which : Which) (world : List Event) (a b : List Step)
    → step_records which world (a ++ b)
    ≡ step_records which world a ++ step_records which (world ++ events_of a) b
step_records-append which world [] b =
    ap (λ (v : List Event). step_records which v b) (sym (append-nil world))
step_records-append which world (s ∷ a) b =
    let one = world ++ events_of (s ∷ []) in
    let first = step_record which world s in
    ap (λ (l : List (List ℕ)). cons_option first l) (step_records-append which one a b)
    ∙ ap
    (λ (v : List Event). cons_option first (step_records which one a ++ step_records which v b))
    (world-then world (s ∷ []) a)
    ∙ sym (cons_option-append first (step_records which one a)
    (step_records which (world ++ events_of (s ∷ a)) b))

-- the journal of some steps
abbrev pub text_of : Which → List Event → List Step → List ℕ
text_of which world steps = journal (step_records which world steps)

text_of-both : (which : Which) (world : List Event) (a b all : List Step)
    → all ≡ a ++ b
    → text_of which world a ++ text_of which (world ++ events_of a) b ≡ text_of which world all
text_of-both which world a b all is =
    sym (journal-append (step_records which world a) (step_records which (world ++ events_of a) b))
    ∙ ap journal (sym (step_records-append which world a b))
    ∙ ap (text_of which world) (sym is)

pub text_of-none : (which : Which) (world : List Event) → text_of which world [] ≡ []
text_of-none which world = refl

-- some steps are recorded, and then more
pub Adds-both : (which : Which) (world : List Event) (a b all : List Step) (s t u : Printout)
    → all ≡ a ++ b
    → Adds (text_of which world a) s t
    → Adds (text_of which (world ++ events_of a) b) t u
    → Adds (text_of which world all) s u
Adds-both which world a b all s t u is first second =
    subst (λ (xs : List ℕ). Adds xs s u) (text_of-both which world a b all is)
    (Adds-then (text_of which world a) (text_of which (world ++ events_of a) b) s t u first second)

-- some steps are recorded, and then a part of more
pub Stops-both : (which : Which) (world : List Event) (a b all : List Step) (stop : Stop)
    (s t u : Printout)
    → all ≡ a ++ b
    → Adds (text_of which world a) s t
    → Stops (text_of which (world ++ events_of a) b) stop t u
    → Stops (text_of which world all) stop s u
Stops-both which world a b all stop s t u is first second =
    subst (λ (xs : List ℕ). Stops xs stop s u) (text_of-both which world a b all is)
    (Stops-then (text_of which world a) (text_of which (world ++ events_of a) b) stop s t u first
    second)

-- a part of some steps is recorded
pub Stops-front : (which : Which) (world : List Event) (a b all : List Step) (stop : Stop)
    (s t : Printout)
    → all ≡ a ++ b
    → Stops (text_of which world a) stop s t
    → Stops (text_of which world all) stop s t
Stops-front which world a b all stop s t is first =
    subst (λ (xs : List ℕ). Stops xs stop s t) (text_of-both which world a b all is)
    (Stops-longer (text_of which world a) (text_of which (world ++ events_of a) b) stop s t first)

-- a call that records more steps behind some
pub Records-both : {T : Type 0} (w : ℕ) (which : Which) (world : List Event) (a b all : List Step)
    (r : Result T Stop) (pair : Pair) (s t u : Printout)
    → all ≡ a ++ b
    → Adds (text_of which world a) s t
    → Records w which (world ++ events_of a) b r pair t u
    → Records w which world all r pair s u
Records-both w which world a b all r pair s t u is first second =
    MatchResult-weaker r second
    (λ _ made. (
      IsPair-then w world a b all pair is made.0,
      Adds-both which world a b all s t u is first made.1,
    ))
    (λ stop stops. Stops-both which world a b all stop s t u is first stops)

-- the journal of one record
pub Prints-one : {T : Type 0} (r : List ℕ) (result : Result T Stop) (s t : Printout)
    → Prints (framed r) result s t
    → Prints (journal (r ∷ [])) result s t
Prints-one r result s t printed =
    subst (λ (text : List ℕ). Prints text result s t) (sym (append-nil (framed r))) printed
