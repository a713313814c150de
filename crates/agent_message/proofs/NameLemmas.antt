-- A name at the front of its field.
use Rattle.std.proofs.Common.{◌≡◌, ℕ, ◌-◌, ◌<◌, ◌≤◌, inl, inr, Bool, true, false, eqb, IsTrue, List, [], ◌∷◌, ◌++◌, length, take, drop, replicate, take_while, sym, ap, ◌∙◌, refl, arith}
use Rattle.std.specs.List.{list_all, prefix_len}
use Rattle.std.proofs.lemmas.Bool.{and_parts, or_cases, eqb-true, eq-eqb}
use Rattle.std.proofs.lemmas.List.{take_at, take_all, drop_at, get_or-take, drop-replicate}
use Rattle.std.proofs.lemmas.List.Folds.{length-prefix_len, prefix_len-append}
use Rattle.std.proofs.lemmas.List.Sums.{prefix_len-le-length, prefix_len_passes, list_all-from_AllPass}
use Rattle.agent_message.specs.Names.{is_name_byte, is_filler_byte, IsName, name_of, filler_of, padded}

-- a name with the rest of a field of spaces behind it is padded, and stands in front
pub in_front : (name front back : List ℕ) → front ≡ name
    → back ≡ drop (length name) (replicate 32 32) → IsName name
    → IsName (take (length name) (front ++ back))
    × (length (take (length name) (front ++ back)) ≡ length name)
    × (padded (take (length name) (front ++ back)) ≡ front ++ back)
in_front name front back is_front is_back valid =
    let spaces : back ≡ replicate (32 - length name) 32 =
    is_back ∙ drop-replicate (length name) 32 32 in
    let field : front ++ back ≡ padded name = cc in
    let at_front : take (length name) (front ++ back) ≡ name =
    rw is_front (take_at name back (length name) refl) in
    rw at_front (valid, refl, sym field)

-- each element of the run at the front passes
pub list_all-take_while : (p : ℕ → Bool) (xs : List ℕ) → list_all p (take_while p xs) ≡ true
list_all-take_while p xs = list_all-from_AllPass p (take_while p xs) (λ k d below.
    let within : k < prefix_len p xs = omega (arith, below, length-prefix_len p xs) in
    rw (get_or-take (prefix_len p xs) xs k d within) (prefix_len_passes p xs k d within))

-- the run of name bytes is a name, unless it is empty
pub IsName-name_of : (field : List ℕ) → length field ≤ 32 → 1 ≤ length (name_of field)
    → IsName (name_of field)
IsName-name_of field fits some =
    let counted = length-prefix_len is_name_byte field in
    let within = prefix_len-le-length is_name_byte field in
    (some, omega (arith, counted, within), list_all-take_while is_name_byte field)

-- ---- what a field spells

-- the whole list is the run where each element passes
prefix_len-all : (p : ℕ → Bool) (xs : List ℕ) → list_all p xs ≡ true → prefix_len p xs ≡ length xs
prefix_len-all p [] all = refl
prefix_len-all p (x ∷ xs) all =
    let both = and_parts (p x) (list_all p xs) all in
    rw both.0 (omega (arith, prefix_len-all p xs both.1))

-- no filler is a name byte
filler_is_no_name : (byte : ℕ) → is_filler_byte byte ≡ true → is_name_byte byte ≡ false
filler_is_no_name byte fills =
    elim (or_cases (eqb byte 32) (eqb byte 0) fills) [
      | inl space ↦ rw (eqb-true byte 32 space) refl
      | inr null ↦ rw (eqb-true byte 0 null) refl
    ]

-- a run of name bytes ends where filler begins
prefix_len-filler : (filler : List ℕ) → list_all is_filler_byte filler ≡ true
    → prefix_len is_name_byte filler ≡ 0
prefix_len-filler [] fills = refl
prefix_len-filler (x ∷ xs) fills =
    rw (filler_is_no_name x (and_parts (is_filler_byte x) (list_all is_filler_byte xs) fills).0)
    refl

-- the run of name bytes is the name
prefix_len-name : (name filler : List ℕ) → IsTrue (list_all is_name_byte name)
    → IsTrue (list_all is_filler_byte filler)
    → prefix_len is_name_byte (name ++ filler) ≡ length name
prefix_len-name name filler valid fills =
    let run = prefix_len-all is_name_byte name valid in
    let none = prefix_len-filler filler fills in
    prefix_len-append is_name_byte name filler
    ∙ rw (run, none, eq-eqb (length name) (length name) refl) (omega arith)

-- a field of a name and filler has that name
pub name_of-append : (name filler : List ℕ) → IsTrue (list_all is_name_byte name)
    → IsTrue (list_all is_filler_byte filler)
    → name_of (name ++ filler) ≡ name
name_of-append name filler valid fills =
    take_at name filler _ (sym (prefix_len-name name filler valid fills))

-- and that filler
pub filler_of-append : (name filler : List ℕ) → IsTrue (list_all is_name_byte name)
    → IsTrue (list_all is_filler_byte filler)
    → filler_of (name ++ filler) ≡ filler
filler_of-append name filler valid fills =
    let behind : drop (length (name_of (name ++ filler))) (name ++ filler) ≡ filler =
    drop_at name filler _ (sym (ap length (name_of-append name filler valid fills))) in
    ap (take_while is_filler_byte) behind
    ∙ take_all _ filler (omega (arith, prefix_len-all is_filler_byte filler fills))
