-- Texts that are written in pieces.
use Rattle.std.proofs.Common.{◌≡◌, ℕ, ◌+◌, ◌≤◌, Result, Ok, Err, OnOk, Option, Some, None, List, [], ◌++◌, length, take, drop, refl, sym, ap, subst, ◌∙◌, append_assoc, append-nil, arith}
use Rattle.std.proofs.Math.Seq.{take-append-add, take-append_seam}
use Rattle.std.proofs.lemmas.List.{take-append-drop}
use Rattle.std.proofs.lemmas.Result.{MatchResult-weaker}
use Rattle.chan_io.specs.Faults.{Rises}
use Rattle.chan_io.specs.Sinks.{Output, Writes, WritesPart}
use Rattle.lab_run.specs.Printing.{Adds, Printout, Prints, Stops}
use Rattle.lab_run.specs.declared.stop.Stop.{Stop}

pub Writes-append : (xs ys : List ℕ) (a b c : Option Output) → Writes xs a b → Writes ys b c
    → Writes (xs ++ ys) a c
Writes-append xs ys None b c first second =
    let P : Option Output → Type 0 = λ b. Writes ys b c in subst P first second
Writes-append xs ys (Some before) b c first second =
    let P : Option Output → Type 0 = λ b. Writes ys b c in
    let last = subst P first second in
    last ∙ ap (λ (t : List ℕ). Some (record before { taken = t })) (append_assoc before.taken xs ys)

-- what was written, and then a part of the rest, is a part of all
pub WritesPart-append : (xs ys : List ℕ) (a b c : Option Output) → Writes xs a b → WritesPart ys b c
    → WritesPart (xs ++ ys) a c
WritesPart-append xs ys None b c first second =
    let P : Option Output → Type 0 = λ b. WritesPart ys b c in subst P first second
WritesPart-append xs ys (Some before) b c first second =
    let P : Option Output → Type 0 = λ b. WritesPart ys b c in
    let last = subst P first second in (
      length xs + last.0,
      last.1 ∙ ap (λ (t : List ℕ). Some (record before { taken = t }))
          (append_assoc before.taken xs (take last.0 ys)
          ∙ ap (λ (t : List ℕ). before.taken ++ t) (sym (take-append-add xs ys last.0))),
    )

-- what was written is a part of a longer text
pub WritesPart-written : (xs ys : List ℕ) (a b : Option Output) → Writes xs a b
    → WritesPart (xs ++ ys) a b
WritesPart-written xs ys None b first = first
WritesPart-written xs ys (Some before) b first = (
  length xs,
  first ∙ ap (λ (t : List ℕ). Some (record before { taken = before.taken ++ t }))
      (sym (take-append_seam xs ys)),
)

-- a part of a text is a part of a longer one
pub WritesPart-longer : (xs ys : List ℕ) (a b : Option Output) → WritesPart xs a b
    → WritesPart (xs ++ ys) a b
WritesPart-longer xs ys None b first = first
WritesPart-longer xs ys (Some before) b first = (
  length (take first.0 xs),
  first.1
      ∙ ap (λ (t : List ℕ). Some (record before { taken = before.taken ++ t }))
      (sym (front first.0 xs ys)),
)
  where
    front : (n : ℕ) (xs ys : List ℕ) → take (length (take n xs)) (xs ++ ys) ≡ take n xs
    front n xs ys =
        ap (take (length (take n xs)))
        (ap (λ (t : List ℕ). t ++ ys) (sym (take-append-drop n xs))
        ∙ append_assoc (take n xs) (drop n xs) ys)
        ∙ take-append_seam (take n xs) (drop n xs ++ ys)

-- nothing was written
WritesPart-none : (text : List ℕ) (o : Option Output) → WritesPart text o o
WritesPart-none text None = refl
WritesPart-none text (Some before) =
    (0, ap (λ (t : List ℕ). Some (record before { taken = t })) (sym (append-nil before.taken)))

Writes-none : (o : Option Output) → Writes [] o o
Writes-none None = refl
Writes-none (Some before) =
    ap (λ (t : List ℕ). Some (record before { taken = t })) (sym (append-nil before.taken))

-- ---- a report that is gathered and written in pieces

-- nothing is added
pub Adds-nothing : (s : Printout) → Adds [] s s
Adds-nothing s =
    record {
      printed = ([], sym (append-nil s.pending), Writes-none s.output);
      faults = refl;
    }

-- a text is pending now
pub Adds-pending : (text : List ℕ) (old new : Printout)
    → new.pending ≡ old.pending ++ text
    → new.output ≡ old.output
    → new.faults ≡ old.faults
    → Adds text old new
Adds-pending text old new pending output faults =
    record {
      printed = (
        [],
        pending,
        subst (λ o. Writes [] old.output o) (sym output) (Writes-none old.output),
      );
      faults = faults;
    }

-- all that was pending is written
pub Adds-written : (old new : Printout)
    → new.pending ≡ []
    → Writes old.pending old.output new.output
    → new.faults ≡ old.faults
    → Adds [] old new
Adds-written old new none written faults =
    record {
      printed = (
        old.pending,
        ap (λ (t : List ℕ). old.pending ++ t) none,
        written,
      );
      faults = faults;
    }

-- one text, and then another
pub Adds-then : (a b : List ℕ) (s t u : Printout) → Adds a s t → Adds b t u → Adds (a ++ b) s u
Adds-then a b s t u first second =
    let p = first.printed in
    let q = second.printed in
    record {
      printed = (
        p.0 ++ q.0,
        append_assoc p.0 q.0 u.pending
            ∙ ap (λ (xs : List ℕ). p.0 ++ xs) q.1
            ∙ sym (append_assoc p.0 t.pending b)
            ∙ ap (λ (xs : List ℕ). xs ++ b) p.1
            ∙ append_assoc s.pending a b,
        Writes-append p.0 q.0 s.output t.output u.output p.2 q.2,
      );
      faults = second.faults ∙ first.faults;
    }

-- one text, and then a part of another
pub Stops-then : (a b : List ℕ) (stop : Stop) (s t u : Printout)
    → Adds a s t → Stops b stop t u → Stops (a ++ b) stop s u
Stops-then a b stop s t u first second =
    let p = first.printed in
    let text : p.0 ++ (t.pending ++ b) ≡ s.pending ++ (a ++ b) =
    sym (append_assoc p.0 t.pending b)
    ∙ ap (λ (xs : List ℕ). xs ++ b) p.1
    ∙ append_assoc s.pending a b in
    let P : List ℕ → Type 0 = λ xs. WritesPart xs s.output u.output in
    record {
      part =
          subst P text
          (WritesPart-append p.0 (t.pending ++ b) s.output t.output u.output p.2 second.part);
      failed = λ is. subst (λ n. Rises n u.faults) first.faults (second.failed is);
      memory = λ is. second.memory is ∙ first.faults;
      counted = omega (arith, second.counted, first.faults);
    }

-- a part of a text is a part of a longer one
pub Stops-longer : (a b : List ℕ) (stop : Stop) (s t : Printout)
    → Stops a stop s t → Stops (a ++ b) stop s t
Stops-longer a b stop s t first =
    let P : List ℕ → Type 0 = λ xs. WritesPart xs s.output t.output in
    record {
      part =
          subst P (append_assoc s.pending a b)
          (WritesPart-longer (s.pending ++ a) b s.output t.output first.part);
      failed = first.failed;
      memory = first.memory;
      counted = first.counted;
    }

-- there was no memory for any of a text
pub Stops-unprinted : (text : List ℕ) (s : Printout) → Stops text Stop.NoMemory s s
Stops-unprinted text s =
    record {
      part = WritesPart-none (s.pending ++ text) s.output;
      failed = λ is. absurd (cc is);
      memory = λ is. refl;
      counted = omega arith;
    }

-- there was no memory behind a text that was added
pub Stops-behind : (text : List ℕ) (s t : Printout) → Adds text s t → Stops text Stop.NoMemory s t
Stops-behind text s t first =
    let P : List ℕ → Type 0 = λ xs. Stops xs Stop.NoMemory s t in
    subst P (append-nil text)
    (Stops-then text [] Stop.NoMemory s t t first (Stops-unprinted [] t))

-- a call that adds a text behind another
pub Prints-then : {T : Type 0} (a b : List ℕ) (r : Result T Stop) (s t u : Printout)
    → Adds a s t → Prints b r t u → Prints (a ++ b) r s u
Prints-then a b r s t u first second =
    MatchResult-weaker r second
    (λ _ adds. Adds-then a b s t u first adds)
    (λ stop stops. Stops-then a b stop s t u first stops)

-- where the printing stopped it does not matter what is pending
pub Stops-at : (text : List ℕ) (stop : Stop) (old new : Printout) (pending : List ℕ)
    → Stops text stop old new → Stops text stop old (record new { pending = pending })
Stops-at text stop old new pending stops =
    record {
      part = stops.part;
      failed = stops.failed;
      memory = stops.memory;
      counted = stops.counted;
    }

-- a text that was added is whole where nothing is pending
pub Prints-emptied : {T : Type 0} (text : List ℕ) (r : Result T Stop) (old new : Printout)
    → OnOk r (new.pending ≡ [])
    → Prints text r old new
    → Prints text r old (record new { pending = [] })
Prints-emptied text (Ok x) old new none adds =
    let P : List ℕ → Type 0 = λ p. Adds text old (record new { pending = p }) in
    subst P none adds
Prints-emptied text (Err stop) old new none stops = Stops-at text stop old new [] stops
