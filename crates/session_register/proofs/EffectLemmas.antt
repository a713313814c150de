-- What a call of a session tells of its row is how it changes the row.
use Rattle.std.proofs.Common.{◌≡◌, ◌≢◌, ℕ, ◌≤◌, Bool, true, false, ◌||◌, ◌⊎◌, Option, Some, None, List, [], ◌∷◌, sym, ap, ◌∙◌, refl, subst}
use Rattle.std.specs.List.{cons_option}
use Rattle.std.specs.Option.{option_map}
use Rattle.chan_values.specs.declared.side.Side.{Side}
use Rattle.chan_values.specs.declared.side.Side.TheVariants.{Plugin, Agent}
use Rattle.session_register.specs.declared.token.Token.{Token}
use Rattle.session_register.specs.declared.row.Chain.{Chain}
use Rattle.session_register.specs.declared.row.Row.{Row}
use Rattle.session_register.specs.declared.answer.Created.{Created}
use Rattle.session_register.specs.declared.answer.Open.{Open}
use Rattle.session_register.specs.declared.answer.Closing.{Closing}
use Rattle.session_register.specs.Rows.{Entry, answer_to_create, answer_to_end, answer_to_open, chain_after, greatest, opened_row, row_after}
use Rattle.session_register.specs.Chains.{is_ended, opening_count, tokens_given}
use Rattle.session_register.proofs.EntryLemmas.{or-false, facts, counted_by, counts-same, Effect, nothing, with_effect}

-- ---- what holds of each session: either nothing was told of it, or tokens of both ends

pub record IsAbsent (ended : Bool) (tp : List Token) (kp : ℕ) (ta : List Token) (ka : ℕ) : Type 0
  where
    pub open_still : ended ≡ false
    pub no_plugin : tp ≡ []
    pub none_counted_p : kp ≡ 0
    pub no_agent : ta ≡ []
    pub none_counted_a : ka ≡ 0

abbrev pub IsSoundAt : Bool → List Token → ℕ → List Token → ℕ → Type 0
IsSoundAt ended tp kp ta ka = IsAbsent ended tp kp ta ka ⊎ ((tp ≢ []) × (ta ≢ []))

abbrev pub IsSound : ℕ → List Entry → Type 0
IsSound from cs = (s : List ℕ) → IsSoundAt (is_ended cs s)
    (tokens_given cs s Plugin) (opening_count from cs s Plugin)
    (tokens_given cs s Agent) (opening_count from cs s Agent)

-- both what a session's entry tells of its row, and that it stays sound
abbrev pub TellsRow : List ℕ → Bool → List Token → ℕ → List Token → ℕ → Effect → Entry → Type 0
TellsRow s ended tp kp ta ka f e =
    (with_effect s ended tp kp ta ka f ≡ row_after e (facts s ended tp kp ta ka))
    × IsSoundAt (ended || f.ended) (cons_option f.plugin tp) (counted_by kp f.new_p f.again_p)
    (cons_option f.agent ta) (counted_by ka f.new_a f.again_a)

pub tells-nothing : (s : List ℕ) (ended : Bool) (tp : List Token) (kp : ℕ) (ta : List Token) (ka : ℕ)
    (e : Entry)
    → kp ≤ greatest → ka ≤ greatest → IsSoundAt ended tp kp ta ka
    → row_after e (facts s ended tp kp ta ka) ≡ facts s ended tp kp ta ka
    → TellsRow s ended tp kp ta ka nothing e
tells-nothing s ended tp kp ta ka e fits_p fits_a sound same =
    let p = sym (counts-same kp fits_p) in
    let a = sym (counts-same ka fits_a) in (
      sym ((λ i. facts s (sym (or-false ended) i) tp (p i) ta (a i))) ∙ sym same,
      subst (λ (b : Bool). IsSoundAt b tp (counted_by kp false false) ta
          (counted_by ka false false)) (sym (or-false ended))
          (subst (λ k. IsSoundAt ended tp k ta (counted_by ka false false)) p
          (subst (λ k. IsSoundAt ended tp kp ta k) a sound)),
    )

pub no-row : (s : List ℕ) (ended : Bool) (tp : List Token) (kp : ℕ) (ta : List Token) (ka : ℕ)
    → IsAbsent ended tp kp ta ka → facts s ended tp kp ta ka ≡ None
no-row s ended tp kp ta ka absent = ap (λ tokens. facts s ended tokens kp ta ka) absent.no_plugin

pub some-row : (s : List ℕ) (ended : Bool) (tp : List Token) (kp : ℕ) (ta : List Token) (ka : ℕ)
    → tp ≢ [] → ta ≢ [] → (row : Row) × (facts s ended tp kp ta ka ≡ Some row)
some-row s ended [] kp ta ka p a = absurd (p refl)
some-row s ended (l ∷ tp) kp [] ka p a = absurd (a refl)
some-row s ended (l ∷ []) kp (m ∷ []) ka p a = (_, refl)
some-row s ended (l ∷ []) kp (m ∷ n ∷ ta) ka p a = (_, refl)
some-row s ended (l ∷ k ∷ tp) kp (m ∷ []) ka p a = (_, refl)
some-row s ended (l ∷ k ∷ tp) kp (m ∷ n ∷ ta) ka p a = (_, refl)

pub unless-new : (row : Row) (found : Option Row) (p a : ℕ) (t u : Token) → found ≡ Some row
    → Created.New t u ≡ answer_to_create found p a → ⊥
unless-new row found p a t u is answered = let e = ap (λ o. answer_to_create o p a) is in
    cc (answered ∙ e)

pub unless-open : (found : Option Row) (role : Side) (token : Token) (fresh : ℕ) (answer : Open)
    → found ≡ None
    → answer ≡ answer_to_open found role token fresh → answer ≡ Open.NoSession
unless-open found role token fresh answer is answered = answered
    ∙ ap (λ o. answer_to_open o role token fresh) is

pub unless-done : (found : Option Row) → found ≡ None → Closing.Done ≡ answer_to_end found → ⊥
unless-done found is answered = let e = ap answer_to_end is in cc (answered ∙ e)

pub unless-none : (row : Row) (found : Option Row) → found ≡ Some row
    → Closing.NoSession ≡ answer_to_end found → ⊥
unless-none row found is answered = let e = ap answer_to_end is in cc (answered ∙ e)

-- an answer that changes no chain
pub idle-open : (answer : Open) (role : Side) (found : Option Row)
    → ((chain : Chain) → chain_after answer chain ≡ chain)
    → option_map (opened_row answer role) found ≡ found
idle-open answer role None same = refl
idle-open answer Plugin (Some row) same = λ i. Some (record row { plugin = same row.plugin i })
idle-open answer Agent (Some row) same = λ i. Some (record row { agent = same row.agent i })

pub succ-plugin : (s : List ℕ) (ended : Bool) (tp : List Token) (kp : ℕ) (ta : List Token) (ka : ℕ)
    (token : Token)
    → tp ≢ [] → ta ≢ []
    → facts s ended (token ∷ tp) (counted_by kp true false) ta ka
    ≡ option_map (opened_row (Open.Successor token) Plugin) (facts s ended tp kp ta ka)
succ-plugin s ended [] kp ta ka token p a = absurd (p refl)
succ-plugin s ended (l ∷ tp) kp [] ka token p a = absurd (a refl)
succ-plugin s ended (l ∷ []) kp (m ∷ []) ka token p a = refl
succ-plugin s ended (l ∷ []) kp (m ∷ n ∷ ta) ka token p a = refl
succ-plugin s ended (l ∷ k ∷ tp) kp (m ∷ []) ka token p a = refl
succ-plugin s ended (l ∷ k ∷ tp) kp (m ∷ n ∷ ta) ka token p a = refl

pub succ-agent : (s : List ℕ) (ended : Bool) (tp : List Token) (kp : ℕ) (ta : List Token) (ka : ℕ)
    (token : Token)
    → tp ≢ [] → ta ≢ []
    → facts s ended tp kp (token ∷ ta) (counted_by ka true false)
    ≡ option_map (opened_row (Open.Successor token) Agent) (facts s ended tp kp ta ka)
succ-agent s ended [] kp ta ka token p a = absurd (p refl)
succ-agent s ended (l ∷ tp) kp [] ka token p a = absurd (a refl)
succ-agent s ended (l ∷ []) kp (m ∷ []) ka token p a = refl
succ-agent s ended (l ∷ []) kp (m ∷ n ∷ ta) ka token p a = refl
succ-agent s ended (l ∷ k ∷ tp) kp (m ∷ []) ka token p a = refl
succ-agent s ended (l ∷ k ∷ tp) kp (m ∷ n ∷ ta) ka token p a = refl
