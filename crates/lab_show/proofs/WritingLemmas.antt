-- Texts that are written one after another.
use Rattle.std.proofs.Common.{◌≡◌, ℕ, ◌+◌, Option, Some, None, List, [], ◌++◌, length, take, drop, refl, sym, ap, subst, ◌∙◌, append_assoc, append-nil}
use Rattle.std.proofs.Math.Seq.{take-append-add, take-append_seam}
use Rattle.std.proofs.lemmas.List.{take-append-drop}
use Rattle.chan_io.specs.Sinks.{Output, Writes, WritesPart}

-- nothing was written
pub Writes-nothing : (before : Option Output) → Writes [] before before
Writes-nothing None = refl
Writes-nothing (Some before) =
    ap (λ (t : List ℕ). Some (record before { taken = t })) (sym (append-nil before.taken))

-- nothing is a part of each text
pub WritesPart-nothing : (text : List ℕ) (before : Option Output) → WritesPart text before before
WritesPart-nothing text None = refl
WritesPart-nothing text (Some before) =
    (0, ap (λ (t : List ℕ). Some (record before { taken = t })) (sym (append-nil before.taken)))

-- two texts are one
pub Writes-append : (xs ys : List ℕ) (a b c : Option Output) → Writes xs a b → Writes ys b c
    → Writes (xs ++ ys) a c
Writes-append xs ys None b c first second =
    let P : Option Output → Type 0 = λ b. Writes ys b c in subst P first second
Writes-append xs ys (Some before) b c first second =
    let P : Option Output → Type 0 = λ b. Writes ys b c in
    let last = subst P first second in
    last ∙ ap (λ (t : List ℕ). Some (record before { taken = t })) (append_assoc before.taken xs ys)

-- a text and then a part of one are a part of both
pub WritesPart-append : (xs ys : List ℕ) (a b c : Option Output) → Writes xs a b → WritesPart ys b c
    → WritesPart (xs ++ ys) a c
WritesPart-append xs ys None b c first second =
    let P : Option Output → Type 0 = λ b. WritesPart ys b c in subst P first second
WritesPart-append xs ys (Some before) b c first second =
    let P : Option Output → Type 0 = λ b. WritesPart ys b c in
    let last = subst P first second in (
      length xs + last.0,
      last.1 ∙ ap (λ (t : List ℕ). Some (record before { taken = t }))
          (append_assoc before.taken xs (take last.0 ys)
          ∙ ap (λ (t : List ℕ). before.taken ++ t) (sym (take-append-add xs ys last.0))),
    )

-- a text is a part of a longer one
pub WritesPart-written : (xs ys : List ℕ) (a b : Option Output) → Writes xs a b
    → WritesPart (xs ++ ys) a b
WritesPart-written xs ys None b first = first
WritesPart-written xs ys (Some before) b first = (
  length xs,
  first
      ∙ ap (λ (t : List ℕ). Some (record before { taken = before.taken ++ t }))
      (sym (take-append_seam xs ys)),
)

-- so is a part of it
pub WritesPart-longer : (xs ys : List ℕ) (a b : Option Output) → WritesPart xs a b
    → WritesPart (xs ++ ys) a b
WritesPart-longer xs ys None b first = first
WritesPart-longer xs ys (Some before) b first = (
  length (take first.0 xs),
  first.1
      ∙ ap (λ (t : List ℕ). Some (record before { taken = before.taken ++ t }))
      (sym (front first.0 xs ys)),
)
  where
    front : (n : ℕ) (xs ys : List ℕ) → take (length (take n xs)) (xs ++ ys) ≡ take n xs
    front n xs ys =
        ap (take (length (take n xs)))
        (ap (λ (t : List ℕ). t ++ ys) (sym (take-append-drop n xs))
        ∙ append_assoc (take n xs) (drop n xs) ys)
        ∙ take-append_seam (take n xs) (drop n xs ++ ys)
