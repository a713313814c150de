-- The two forms of an address, as one.
use Rattle.std.proofs.Common.{◌≡◌, ℕ, Bool, true, false, ◌||◌, List, ◌++◌, Option, Some, None, is_some}
use Rattle.std.proofs.Common.{refl, ap, sym, ◌∙◌, codes, decimal, inl, inr}
use Rattle.std.proofs.lemmas.Bool.{false≢true}
use Rattle.std.specs.Prelude.{IfSome, IfNone}
use Rattle.std.specs.Bool.{Decides}
use Rattle.program_words.specs.Options.{IsAddress, IsHost, IsPositive}

-- a front, and the digits of a port
abbrev pub HasPort : List ℕ → List ℕ → Type 0
HasPort front text = (port : ℕ) × IsPositive port × (text ≡ front ++ decimal port)

-- what is behind the front is a port, or not
pub behind_front : (text front rest : List ℕ) (found : Option ℕ) → text ≡ front ++ rest
    → IfSome found (λ n. IsPositive n × (decimal n ≡ rest))
    → IfNone found ((n : ℕ) → IsPositive n → decimal n ≡ rest → ⊥)
    → (front ++ rest ≡ text → (n : ℕ) → text ≡ front ++ decimal n → decimal n ≡ rest)
    → Decides (is_some found) (HasPort front text)
behind_front text front rest (Some n) e some none cancels =
    ((λ t. (n, some.0, e ∙ ap (λ xs. front ++ xs) (sym some.1))), (λ p. refl))
behind_front text front rest None e some none cancels =
    ((λ t. absurd (false≢true t)), (λ p. absurd (none p.0 p.1 (cancels (sym e) p.0 p.2))))

or_left : (a b : Bool) → a ≡ true → (a || b) ≡ true
or_left a b e = ap (λ x. x || b) e

or_right : (a b : Bool) → b ≡ true → (a || b) ≡ true
or_right true b e = refl
or_right false b e = e

-- the port behind one of the two hosts
at_host : (a b : Bool) (text host : List ℕ) (port : ℕ) → IsHost host → IsPositive port
    → text ≡ host ++ codes ":" ++ decimal port
    → (HasPort (codes "127.0.0.1:") text → a ≡ true)
    → (HasPort (codes "localhost:") text → b ≡ true) → (a || b) ≡ true
at_host a b text host port (inl h) p e one two =
    or_left a b (one (port, p, e ∙ ap (λ x. x ++ codes ":" ++ decimal port) h))
at_host a b text host port (inr h) p e one two =
    or_right a b (two (port, p, e ∙ ap (λ x. x ++ codes ":" ++ decimal port) h))

of_either : (a b : Bool) (text : List ℕ) → Decides a (HasPort (codes "127.0.0.1:") text)
    → Decides b (HasPort (codes "localhost:") text) → (a || b) ≡ true → IsAddress text
of_either true b text one two t =
    let p = one.0 refl in (codes "127.0.0.1", p.0, inl refl, p.1, p.2)
of_either false b text one two t =
    let p = two.0 t in (codes "localhost", p.0, inr refl, p.1, p.2)

pub either_host : (a b : Bool) (text : List ℕ) → Decides a (HasPort (codes "127.0.0.1:") text)
    → Decides b (HasPort (codes "localhost:") text) → Decides (a || b) (IsAddress text)
either_host a b text one two = (
  of_either a b text one two,
  (λ w. at_host a b text w.0 w.1 w.2 w.3 w.4 one.1 two.1),
)
