-- The lines of a generated script.
use Rattle.std.proofs.Common.{◌≡◌, ℕ, ◌+◌, ◌*◌, ◌^◌, ◌<◌, ◌≤◌, zero, suc, List, [], ◌∷◌, ◌++◌, sym, ap, subst, ◌∙◌, add-one, arith}
use Rattle.std.specs.List.{All}
use Rattle.std.proofs.lemmas.List.Elements.{All-append, All-cons, All-nil}
use Rattle.lab_script.specs.Command.{IsCommand}
use Rattle.lab_script.specs.declared.command.Command.{Command}
use Rattle.lab_gen.specs.declared.round.Round.{Round}
use Rattle.lab_gen.specs.Generator.{lines_of, round_at, round_lines, rounds}
use Rattle.lab_gen.specs.Laws.{GeneratedIsScript}
use Rattle.lab_gen.proofs.RunLemmas.{IsAction-put, rounds-more, rounds-none}

-- what each line of a round is, each line of some rounds is
pub rounds_are : (P : Command → Type 0) (seed bound : ℕ)
    → ((round : ℕ) → round < bound → All P (round_lines round (round_at seed round)))
    → (count : ℕ)
    → count ≤ bound
    → All P (rounds count seed)
rounds_are P seed bound each zero within =
    subst (All P) (sym (rounds-none seed)) (All-nil P)
rounds_are P seed bound each (suc count) within =
    let whole : rounds (suc count) seed
    ≡ rounds count seed ++ round_lines count (round_at seed count) =
    ap (λ n. rounds n seed) (sym (add-one count)) ∙ rounds-more count seed in
    subst (All P) (sym whole)
    (All-append P (rounds count seed) (round_lines count (round_at seed count))
    (rounds_are P seed bound each count (omega arith)) (each count (omega arith)))

-- lines one after another
pub both : (P : Command → Type 0) (a b : Command) → P a → P b → All P (a ∷ b ∷ [])
both P a b first second = All-cons P a (b ∷ []) first (All-cons P b [] second (All-nil P))

-- each line of a round is a command of a script
lines_are_commands : (round : ℕ) (what : Round) → All IsCommand (lines_of round what)
lines_are_commands round (Round.Put side) =
    All-cons IsCommand _ [] (IsAction-put round) (All-nil IsCommand)
lines_are_commands round (Round.Send side) = both IsCommand _ _ tt tt
lines_are_commands round (Round.Lose side) = both IsCommand _ _ tt tt
lines_are_commands round Round.Reconnect =
    All-append IsCommand (_ ∷ _ ∷ []) (_ ∷ _ ∷ []) (both IsCommand _ _ tt tt)
    (both IsCommand _ _ tt tt)

pub generated_is_script : GeneratedIsScript
generated_is_script count seed few =
    All-append IsCommand (rounds count seed) (Command.Settle ∷ [])
    (rounds_are IsCommand seed count
    (λ round below.
    let what = round_at seed round in
    let early : 100 * round < 2 ^ 64 = omega arith in
    All-cons IsCommand (Command.At (100 * round)) (lines_of round what) early
    (lines_are_commands round what))
    count (omega arith))
    (All-cons IsCommand Command.Settle [] tt (All-nil IsCommand))
