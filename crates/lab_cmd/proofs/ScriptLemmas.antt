-- Which line of an input is the first that is out of the grammar.
use Rattle.std.proofs.Common.{◌≡◌, ℕ, ◌+◌, ◌<◌, List, [], ◌∷◌, ◌++◌, length, map, get_or, refl, sym, ap, subst, ◌∙◌, arith}
use Rattle.std.specs.List.{All}
use Rattle.std.proofs.Math.Seq.{get_or-append_seam}
use Rattle.std.proofs.lemmas.List.{length-append, length-map, get_or_append_left}
use Rattle.std.proofs.lemmas.List.Elements.{All-map}
use Rattle.lab_script.specs.declared.command.Command.{Command}
use Rattle.lab_script.specs.declared.relay_command.RelayCommand.{RelayCommand}
use Rattle.lab_script.specs.declared.stream_command.StreamCommand.{StreamCommand}
use Rattle.lab_script.specs.Command.{IsCommand, IsScriptLine, spelling}
use Rattle.lab_script.specs.Lines.{lines_of}
use Rattle.lab_script.specs.RelayCommand.{IsRelayCommand, IsRelayLine, relay_spelling}
use Rattle.lab_script.specs.StreamCommand.{IsStreamCommand, IsStreamLine, stream_spelling}
use Rattle.lab_cmd.specs.Script.{IsFirstBad, IsScript}

-- the spelling of a command is a line of its grammar
pub says_command : (command : Command) → IsCommand command → IsScriptLine (spelling command)
says_command command in_range = (command, record { in_range = in_range; spelled = refl })

pub says_stream_command : (command : StreamCommand) → IsStreamCommand command
    → IsStreamLine (stream_spelling command)
says_stream_command command in_range = (command, record { in_range = in_range; spelled = refl })

pub says_relay_command : (command : RelayCommand) → IsRelayCommand command
    → IsRelayLine (relay_spelling command)
says_relay_command command in_range = (command, record { in_range = in_range; spelled = refl })

-- so are those of commands
pub All-says : {C : Type 0} (spelling : C → List ℕ) (InRange : C → Type 0) (IsLine : List ℕ → Type 0)
    → ((command : C) → InRange command → IsLine (spelling command))
    → (commands : List C)
    → All InRange commands
    → All IsLine (map spelling commands)
All-says spelling InRange IsLine says commands in_range =
    All-map IsLine spelling commands (λ k d within. says _ (in_range k d within))

-- a line out of the grammar behind those of commands is the first
pub IsFirstBad-after : {C : Type 0} (spelling : C → List ℕ) (InRange : C → Type 0)
    (IsLine : List ℕ → Type 0)
    → ((command : C) → InRange command → IsLine (spelling command))
    → (commands : List C) (n : ℕ) (bad : List ℕ) (rest lines : List (List ℕ))
    → map spelling commands ++ bad ∷ rest ≡ lines
    → All InRange commands
    → n ≡ length commands + 1
    → ¬ IsLine bad
    → IsFirstBad IsLine n lines
IsFirstBad-after spelling InRange IsLine says commands n bad rest lines parts in_range place out =
    record {
      good = map spelling commands;
      bad = bad;
      rest = rest;
      parts = sym parts;
      place = place ∙ ap (λ k. k + 1) (sym (length-map commands spelling));
      before = All-says spelling InRange IsLine says commands in_range;
      out = out;
    }

-- the bad line stands behind the good ones
bad_at : (IsLine : List ℕ → Type 0) (n : ℕ) (lines : List (List ℕ)) (b : IsFirstBad IsLine n lines)
    → get_or lines (length b.good) [] ≡ b.bad
bad_at IsLine n lines b =
    ap (λ (xs : List (List ℕ)). get_or xs (length b.good) []) b.parts
    ∙ get_or-append_seam b.good b.bad b.rest []

bad_within : (IsLine : List ℕ → Type 0) (n : ℕ) (lines : List (List ℕ))
    (b : IsFirstBad IsLine n lines)
    → length b.good < length lines
bad_within IsLine n lines b =
    let long = ap length b.parts ∙ length-append b.good (b.bad ∷ b.rest) in omega (arith, long)

-- an input with a bad line is no script
pub not_both : {C : Type 0} (spelling : C → List ℕ) (InRange : C → Type 0) (IsLine : List ℕ → Type 0)
    → ((command : C) → InRange command → IsLine (spelling command))
    → (n : ℕ) (commands : List C) (input : List ℕ)
    → IsScript spelling InRange commands input
    → IsFirstBad IsLine n (lines_of input)
    → ⊥
not_both spelling InRange IsLine says n commands input script b =
    let all : All IsLine (lines_of input) =
    subst (All IsLine) (sym script.spelled)
    (All-says spelling InRange IsLine says commands script.in_range) in
    b.out (subst IsLine (bad_at IsLine n (lines_of input) b)
    (all (length b.good) [] (bad_within IsLine n (lines_of input) b)))

-- a line before the first bad one is good
earlier_is_good : (IsLine : List ℕ → Type 0) (n m : ℕ) (lines : List (List ℕ))
    (a : IsFirstBad IsLine n lines) (b : IsFirstBad IsLine m lines)
    → length a.good < length b.good → ⊥
earlier_is_good IsLine n m lines a b less =
    let at : get_or b.good (length a.good) [] ≡ a.bad =
    sym (get_or_append_left b.good (b.bad ∷ b.rest) [] (length a.good) less)
    ∙ ap (λ (xs : List (List ℕ)). get_or xs (length a.good) []) (sym b.parts)
    ∙ bad_at IsLine n lines a in
    a.out (subst IsLine at (b.before (length a.good) [] less))

-- there is one first bad line
pub IsFirstBad-unique : (IsLine : List ℕ → Type 0) (n m : ℕ) (lines : List (List ℕ))
    → IsFirstBad IsLine n lines → IsFirstBad IsLine m lines
    → n ≡ m
IsFirstBad-unique IsLine n m lines a b =
    let left : ¬ (length a.good < length b.good) = earlier_is_good IsLine n m lines a b in
    let right : ¬ (length b.good < length a.good) = earlier_is_good IsLine m n lines b a in
    omega (arith, left, right, a.place, b.place)
