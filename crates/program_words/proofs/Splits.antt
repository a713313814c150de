-- Lists that are joined by a byte that none of them has.
use Rattle.std.proofs.Common.{◌≡◌, ℕ, ◌<◌, ◌≤◌, ◌∙◌, Bool, true, false, List, [], ◌∷◌, ◌++◌, length}
use Rattle.std.proofs.Common.{refl, ap, sym, subst, arith, eq-eqb, get_or, map, Option, Some, None}
use Rattle.std.specs.Prelude.{◌==◌, MatchOption}
use Rattle.std.proofs.lemmas.List.{length-map}
use Rattle.std.specs.List.{All, join_with_byte, slice_split}
use Rattle.std.proofs.lemmas.List.Elements.{All-head, All-tail}
use Rattle.std.proofs.lemmas.Bool.{eqb-true, false≢true}
use Rattle.std.proofs.lemmas.List.Splits.{join_with_byte-slice_split, slice_split_at}
use Rattle.std.proofs.lemmas.List.Splits.{length-slice_split, slice_split_none}
use Rattle.std.proofs.lemmas.List.Sums.{AllPass-from_list_all}
use Rattle.session_register.specs.Names.{IsSessionName, is_session_byte}
use Rattle.program_words.specs.SessionLists.{AreSessions, IsListOf}

-- no element of a list is the byte
abbrev pub Lacks : ℕ → List ℕ → Type 0
Lacks c xs = All (λ b. (b == c) ≡ false) xs

-- cut at the byte, they come apart again
pub split_joined : (c : ℕ) (names : List (List ℕ)) → 1 ≤ length names
    → All (Lacks c) names
    → slice_split (λ b. b == c) (join_with_byte c names) ≡ names
split_joined c [] some h = absurd (omega (arith, some))
split_joined c (x ∷ []) some h = slice_split_none (λ b. b == c) x (All-head (Lacks c) x [] h)
split_joined c (x ∷ y ∷ xs) some h =
    slice_split_at (λ b. b == c) x c (join_with_byte c (y ∷ xs)) (All-head (Lacks c) x (y ∷ xs) h)
    (eq-eqb c c refl)
    ∙ ap (λ l. x ∷ l) (split_joined c (y ∷ xs) (omega arith) (All-tail (Lacks c) x (y ∷ xs) h))

-- a byte of a session's name is no comma
no_comma : (b : ℕ) (c : Bool) → (b == 44) ≡ c → is_session_byte b ≡ true → c ≡ false
no_comma b false e h = refl
no_comma b true e h =
    absurd (false≢true (subst (λ x. is_session_byte x ≡ true) (eqb-true b 44 e) h))

name_lacks : (name : List ℕ) → IsSessionName name → Lacks 44 name
name_lacks name h k d below = no_comma (get_or name k d) (get_or name k d == 44) refl
    (AllPass-from_list_all is_session_byte name h.2 k d below)

-- the names of a relay are the parts of their text
pub parts_are : (names : List (List ℕ)) (text : List ℕ) → IsListOf names text
    → slice_split (λ b. b == 44) text ≡ names
parts_are names text l = ap (slice_split (λ b. b == 44)) l.1
    ∙ split_joined 44 names l.0.some (λ k d below. name_lacks _ (l.0.named k d below))

-- where the parts are those of a relay, the text has them in a row
pub list_of_parts : (names : List (List ℕ)) (text : List ℕ) → AreSessions names
    → names ≡ slice_split (λ b. b == 44) text → IsListOf names text
list_of_parts names text s e =
    (s, sym (ap (join_with_byte 44) e ∙ join_with_byte-slice_split 44 text))

-- there is at least one part
pub some_part : {X : Type 0} (text_of : X → List ℕ) (xs : List X) (text : List ℕ)
    → map text_of xs ≡ slice_split (λ b. b == 44) text → 1 ≤ length xs
some_part text_of xs text e = omega (
  arith,
  length-map xs text_of,
  ap length e,
  length-slice_split (λ b. b == 44) text,
)

-- what is said of an answer, where it is known
pub match_some : {X : Type 0} (o : Option X) (x : X) (P : Type 0) (Q : X → Type 0)
    → MatchOption o P Q → o ≡ Some x → Q x
match_some o x P Q m e = subst (λ z. MatchOption z P Q) e m

pub match_none : {X : Type 0} (o : Option X) (P : Type 0) (Q : X → Type 0)
    → MatchOption o P Q → o ≡ None → P
match_none o P Q m e = subst (λ z. MatchOption z P Q) e m
