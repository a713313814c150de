-- What the kind of clap's error says of the words.
use Rattle.std.proofs.Common.{◌≡◌, ◌≢◌, ◌≤◌, ◌⊎◌, inl, inr, Bool, true, false, List, [], ◌∷◌, length}
use Rattle.std.proofs.Common.{refl, ap, sym, subst, ◌∙◌, arith}
use Rattle.std.proofs.lemmas.Bool.{false≢true}
use Rattle.clap.specs.Kinds.{IsAmong, Kinds}
use Rattle.clap.specs.declared.error.kind.ErrorKind.{ErrorKind}
use Rattle.clap.specs.declared.error.kind.ErrorKind.TheVariants as kind

abbrev Asks : Kinds → Type 0
Asks kinds = IsAmong kind.DisplayHelp kinds ⊎ IsAmong kind.DisplayVersion kinds

is_text : ErrorKind → Bool
is_text kind.DisplayHelp = true
is_text kind.DisplayVersion = true
is_text _ = false

-- the kind is one of the two where it is not neither
one_of_both : (k : ErrorKind) → ((k ≢ kind.DisplayHelp) × (k ≢ kind.DisplayVersion) → ⊥)
    → (k ≡ kind.DisplayHelp) ⊎ (k ≡ kind.DisplayVersion)
unfolding is_text
one_of_both kind.DisplayHelp h = inl refl
one_of_both kind.DisplayVersion h = inr refl
one_of_both _ h =
    absurd (h ((λ e. false≢true (ap is_text e)), (λ e. false≢true (ap is_text e))))

some_kind : (k : ErrorKind) (kinds : Kinds) → IsAmong k kinds → kinds ≡ [] → ⊥
some_kind k kinds among e = subst (IsAmong k) e among

among : (k : ErrorKind) (kinds : Kinds) → k ≢ kind.OutOfMemory
    → (k ≡ kind.OutOfMemory) ⊎ IsAmong k kinds → IsAmong k kinds
among k kinds other (inl e) = absurd (other e)
among k kinds other (inr a) = a

asks_both : (k : ErrorKind) (kinds : Kinds) → IsAmong k kinds
    → (k ≡ kind.DisplayHelp) ⊎ (k ≡ kind.DisplayVersion) → Asks kinds
asks_both k kinds a (inl e) = inl (subst (λ x. IsAmong x kinds) e a)
asks_both k kinds a (inr e) = inr (subst (λ x. IsAmong x kinds) e a)

-- where the text is for standard output
pub asked : (k : ErrorKind) (kinds : Kinds) → k ≢ kind.OutOfMemory
    → (k ≡ kind.OutOfMemory) ⊎ IsAmong k kinds
    → ((k ≢ kind.DisplayHelp) × (k ≢ kind.DisplayVersion) → ⊥) → Asks kinds × (kinds ≡ [] → ⊥)
asked k kinds other has both =
    let a = among k kinds other has in
    (asks_both k kinds a (one_of_both k both), some_kind k kinds a)

same_kind : (k x : ErrorKind) (kinds : Kinds) → length kinds ≤ 1 → IsAmong k kinds
    → IsAmong x kinds → k ≡ x
same_kind k x [] few a b = absurd a
same_kind k x (y ∷ []) few (inl a) (inl b) = a ∙ sym b
same_kind k x (y ∷ []) few (inr a) b = absurd a
same_kind k x (y ∷ []) few (inl a) (inr b) = absurd b
same_kind k x (y ∷ z ∷ kinds) few a b = absurd (omega (arith, few))

asks_none : (k : ErrorKind) (kinds : Kinds) → length kinds ≤ 1 → IsAmong k kinds
    → k ≢ kind.DisplayHelp → k ≢ kind.DisplayVersion → Asks kinds → ⊥
asks_none k kinds few a help version (inl b) = help (same_kind k kind.DisplayHelp kinds few a b)
asks_none k kinds few a help version (inr b) =
    version (same_kind k kind.DisplayVersion kinds few a b)

-- where it is for standard error
pub refused : (k : ErrorKind) (kinds : Kinds) → length kinds ≤ 1 → k ≢ kind.OutOfMemory
    → (k ≡ kind.OutOfMemory) ⊎ IsAmong k kinds
    → (k ≢ kind.DisplayHelp) × (k ≢ kind.DisplayVersion) → (Asks kinds → ⊥) × (kinds ≡ [] → ⊥)
refused k kinds few other has both =
    let a = among k kinds other has in
    (asks_none k kinds few a both.0 both.1, some_kind k kinds a)
