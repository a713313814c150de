-- Calls made before openings were counted, and those that went on over their rows.
use Rattle.std.proofs.Common.{◌≡◌, ◌≢◌, ◌⊎◌, inl, inr, ℕ, ◌+◌, ◌-◌, ◌≤◌, Bool, true, false, cond, ◌||◌, ◌&&◌, not, Some, None, List, [], ◌∷◌, sym, ap, ◌∙◌, refl, subst, arith}
use Rattle.std.specs.List.{cons_option}
use Rattle.std.proofs.lemmas.Bool.{eqb-false}
use Rattle.chan_values.specs.declared.side.Side.{Side}
use Rattle.chan_values.specs.declared.side.Side.TheVariants.{Plugin, Agent}
use Rattle.session_register.specs.declared.token.Token.{Token}
use Rattle.session_register.specs.declared.row.Chain.{Chain}
use Rattle.session_register.specs.declared.row.Row.{Row}
use Rattle.session_register.specs.declared.answer.Created.{Created}
use Rattle.session_register.specs.declared.answer.Open.{Open}
use Rattle.session_register.specs.declared.answer.Closing.{Closing}
use Rattle.session_register.specs.Names.{same_name}
use Rattle.session_register.specs.Rows.{AsksEnded, Counts, Creates, Ends, Entry, IsAnswered, Opens, answer_by_chain, answer_to_create, answer_to_end, answer_to_open, first_token, greatest, is_prev, same_token, session_of, successor}
use Rattle.session_register.specs.Chains.{same_side}
use Rattle.session_register.proofs.EntryLemmas.{Effect, effect, facts, nothing, one, or-false}
use Rattle.session_register.proofs.EffectLemmas.{IsAbsent, unless-done, unless-new, unless-open}

-- ---- the count of the last token is the number of tokens

-- a chain whose last token came after so many
abbrev pub IsNumbered : List Token → ℕ → Type 0
IsNumbered [] before = ⊥
IsNumbered (last ∷ tokens) before = (last.count ≡ before + 1) × (last.count ≤ greatest)

abbrev pub IsCountedAt : Bool → List Token → ℕ → List Token → ℕ → Type 0
IsCountedAt ended tp np ta na = IsAbsent ended tp np ta na ⊎ (IsNumbered tp np × IsNumbered ta na)

-- the same with what an entry tells
abbrev CountedWith : Bool → List Token → ℕ → List Token → ℕ → Effect → Type 0
CountedWith ended tp np ta na f =
    IsCountedAt (ended || f.ended) (cons_option f.plugin tp) (np + one f.new_p)
    (cons_option f.agent ta) (na + one f.new_a)

none_more : (n : ℕ) → n + one false ≡ n
none_more n = omega arith

pub keeps : (ended : Bool) (tp : List Token) (np : ℕ) (ta : List Token) (na : ℕ)
    → IsCountedAt ended tp np ta na → CountedWith ended tp np ta na nothing
keeps ended tp np ta na counted =
    subst (λ (b : Bool). IsCountedAt b tp (np + one false) ta (na + one false))
    (sym (or-false ended))
    (subst (λ n. IsCountedAt ended tp n ta (na + one false)) (sym (none_more np))
    (subst (λ n. IsCountedAt ended tp np ta n) (sym (none_more na)) counted))

pub no_facts : (s : List ℕ) (ended : Bool) (tp : List Token) (kp : ℕ) (ta : List Token) (ka : ℕ)
    → tp ≡ [] → facts s ended tp kp ta ka ≡ None
no_facts s ended tp kp ta ka none = ap (λ tokens. facts s ended tokens kp ta ka) none

-- the row of two chains, and their last tokens
row_lasts : (s : List ℕ) (ended : Bool) (l m : Token) (tp : List Token) (kp : ℕ) (ta : List Token)
    (ka : ℕ) → (row : Row) × (facts s ended (l ∷ tp) kp (m ∷ ta) ka ≡ Some row)
    × (row.plugin.last ≡ l) × (row.agent.last ≡ m)
row_lasts s ended l m [] kp [] ka = (_, refl, refl, refl)
row_lasts s ended l m [] kp (n ∷ ta) ka = (_, refl, refl, refl)
row_lasts s ended l m (k ∷ tp) kp [] ka = (_, refl, refl, refl)
row_lasts s ended l m (k ∷ tp) kp (n ∷ ta) ka = (_, refl, refl, refl)

-- the first tokens have count 1
counts-new : (s : List ℕ) (ended : Bool) (tp : List Token) (np : ℕ) (ta : List Token) (na kp ka : ℕ)
    (p a : ℕ) (t u : Token) → IsCountedAt ended tp np ta na
    → Created.New t u ≡ answer_to_create (facts s ended tp kp ta ka) p a
    → CountedWith ended tp np ta na (record nothing { plugin = Some t; agent = Some u })
counts-new s ended tp np ta na kp ka p a t u (inl absent) answered =
    let made : Created.New t u ≡ Created.New (first_token p) (first_token a) =
    answered ∙ ap (λ o. answer_to_create o p a) (no_facts s ended tp kp ta ka absent.no_plugin)
    in
    let plugin : t ≡ first_token p = cc in
    let agent : u ≡ first_token a = cc in
    let first : t.count ≡ 1 = ap (λ (x : Token). x.count) plugin in
    let second : u.count ≡ 1 = ap (λ (x : Token). x.count) agent in
    let zero_p = absent.none_counted_p in
    let zero_a = absent.none_counted_a in
    inr ((omega arith, omega arith), (omega arith, omega arith))
counts-new s ended [] np ta na kp ka p a t u (inr counted) answered = absurd counted.0
counts-new s ended (l ∷ tp) np [] na kp ka p a t u (inr counted) answered = absurd counted.1
counts-new s ended (l ∷ tp) np (m ∷ ta) na kp ka p a t u (inr counted) answered =
    let row = row_lasts s ended l m tp kp ta ka in
    absurd (unless-new row.0 _ p a t u row.1 answered)

-- a successor follows the last token, whose count is not the greatest
succeeds : (bad ended again spent : Bool) (token last next : Token)
    → Open.Successor token
    ≡ cond bad Open.BadToken (cond ended Open.Ended (cond again (Open.Same last)
    (cond spent Open.Spent (Open.Successor next))))
    → (token ≡ next) × (spent ≡ false)
succeeds true ended again spent token last next is = absurd (cc)
succeeds false true again spent token last next is = absurd (cc)
succeeds false false true spent token last next is = absurd (cc)
succeeds false false false true token last next is = absurd (cc)
succeeds false false false false token last next is = (cc, refl)

-- the count of a successor
numbered-next : (chain : Chain) (ended : Bool) (shown token : Token) (fresh before : ℕ)
    → Open.Successor token ≡ answer_by_chain chain ended shown fresh
    → chain.last.count ≡ before + 1 → chain.last.count ≤ greatest
    → (token.count ≡ before + 1 + 1) × (token.count ≤ greatest)
numbered-next chain ended shown token fresh before answered counted fits =
    let next = succeeds (not (same_token shown chain.last || is_prev shown chain.prev)) ended
    (is_prev shown chain.prev) _ token chain.last (successor chain.last fresh) answered in
    let below : chain.last.count ≢ greatest = eqb-false chain.last.count greatest next.1 in
    let count : token.count ≡ chain.last.count + 1 = ap (λ (t : Token). t.count) next.0 in
    (omega (arith, count, counted), omega (arith, count, fits, below))

-- of the side that opened
counts-by : (row : Row) (chain : Chain) (l : Token) (shown token : Token) (fresh before : ℕ)
    → Open.Successor token ≡ answer_by_chain chain row.ended shown fresh → chain.last ≡ l
    → (l.count ≡ before + 1) × (l.count ≤ greatest)
    → (token.count ≡ before + 1 + 1) × (token.count ≤ greatest)
counts-by row chain l shown token fresh before answered is numbered =
    let count : chain.last.count ≡ l.count = ap (λ (t : Token). t.count) is in
    numbered-next chain row.ended shown token fresh before answered (count ∙ numbered.0)
    (omega (arith, count, numbered.1))

same_number : (l : Token) (before : ℕ) → (l.count ≡ before + 1) × (l.count ≤ greatest)
    → (l.count ≡ before + one false + 1) × (l.count ≤ greatest)
same_number l before numbered = (omega (arith, numbered.0), numbered.1)

counts-succ : (s : List ℕ) (ended : Bool) (tp : List Token) (np : ℕ) (ta : List Token)
    (na kp ka : ℕ) (r : Side) (t : Token) (f : ℕ) (token : Token) → IsCountedAt ended tp np ta na
    → Open.Successor token ≡ answer_to_open (facts s ended tp kp ta ka) r t f
    → CountedWith ended tp np ta na (record nothing {
      plugin = cond (same_side r Plugin) (Some token) None;
      new_p = same_side r Plugin;
      agent = cond (same_side r Agent) (Some token) None;
      new_a = same_side r Agent;
    })
counts-succ s ended tp np ta na kp ka r t f token (inl absent) answered =
    let none = no_facts s ended tp kp ta ka absent.no_plugin in
    let no = unless-open _ r t f (Open.Successor token) none answered in absurd (cc)
counts-succ s ended [] np ta na kp ka r t f token (inr counted) answered = absurd counted.0
counts-succ s ended (l ∷ tp) np [] na kp ka r t f token (inr counted) answered = absurd counted.1
counts-succ s ended (l ∷ tp) np (m ∷ ta) na kp ka Plugin t f token (inr counted) answered =
    let row = row_lasts s ended l m tp kp ta ka in
    let told = answered ∙ ap (λ o. answer_to_open o Plugin t f) row.1 in
    inr (
      counts-by row.0 row.0.plugin l t token f np told row.2 counted.0,
      same_number m na counted.1,
    )
counts-succ s ended (l ∷ tp) np (m ∷ ta) na kp ka Agent t f token (inr counted) answered =
    let row = row_lasts s ended l m tp kp ta ka in
    let told = answered ∙ ap (λ o. answer_to_open o Agent t f) row.1 in
    inr (
      same_number l np counted.0,
      counts-by row.0 row.0.agent m t token f na told row.3
          counted.1,
    )

counts-done : (s : List ℕ) (ended : Bool) (tp : List Token) (np : ℕ) (ta : List Token)
    (na kp ka : ℕ) → IsCountedAt ended tp np ta na
    → Closing.Done ≡ answer_to_end (facts s ended tp kp ta ka)
    → CountedWith ended tp np ta na (record nothing { ended = true })
counts-done s ended tp np ta na kp ka (inl absent) answered =
    absurd (unless-done _ (no_facts s ended tp kp ta ka absent.no_plugin) answered)
counts-done s ended [] np ta na kp ka (inr counted) answered = absurd counted.0
counts-done s ended (l ∷ tp) np [] na kp ka (inr counted) answered = absurd counted.1
counts-done s ended (l ∷ tp) np (m ∷ ta) na kp ka (inr counted) answered =
    inr (same_number l np counted.0, same_number m na counted.1)

module _ (s : List ℕ) (ended : Bool) (tp : List Token) (np : ℕ) (ta : List Token) (na kp ka : ℕ)
    (counted : IsCountedAt ended tp np ta na) where
  abbrev With : Effect → Type 0
  With = CountedWith ended tp np ta na

  still : With nothing
  still = keeps ended tp np ta na counted

  -- what an entry of the session leaves counted
  pub counts : (e : Entry) → same_name (session_of e) s ≡ true
      → IsAnswered (facts s ended tp kp ta ka) e → With (effect s e)
  counts (Creates x p a (Created.New t u)) same answered =
      subst With
      (λ i. record nothing {
        plugin = cond (sym same i) (Some t) None;
        agent =
            cond (sym same i) (Some u) None;
      })
      (counts-new s ended tp np ta na kp ka p a t u counted answered)
  counts (Creates x p a Created.Exists) same answered = still
  counts (Opens x r t f (Open.Successor token)) same answered =
      subst With
      (λ i. record nothing {
        plugin = cond (sym same i && same_side r Plugin) (Some token) None;
        new_p = sym same i && same_side r Plugin;
        agent = cond (sym same i && same_side r Agent) (Some token) None;
        new_a = sym same i && same_side r Agent;
      })
      (counts-succ s ended tp np ta na kp ka r t f token counted answered)
  counts (Opens x r t f (Open.Same token)) same answered = still
  counts (Opens x r t f Open.NoSession) same answered = still
  counts (Opens x r t f Open.BadToken) same answered = still
  counts (Opens x r t f Open.Ended) same answered = still
  counts (Opens x r t f Open.Spent) same answered = still
  counts (Ends x Closing.Done) same answered =
      subst With (λ i. record nothing { ended = sym same i })
      (counts-done s ended tp np ta na kp ka counted answered)
  counts (Ends x Closing.NoSession) same answered = still
  counts (AsksEnded x answer) same answered = still
  counts (Counts x answer) same answered = still
