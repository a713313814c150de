-- A row whose token is shown again, and what that tells.
use Rattle.std.proofs.Common.{◌≡◌, ◌≢◌, ℕ, ◌≤◌, Bool, true, false, cond, ◌||◌, ◌&&◌, inl, inr, Option, Some, None, List, [], ◌∷◌, sym, ap, ◌∙◌, refl, subst}
use Rattle.std.specs.List.{cons_option}
use Rattle.std.specs.Option.{option_map}
use Rattle.chan_values.specs.declared.side.Side.{Side}
use Rattle.chan_values.specs.declared.side.Side.TheVariants.{Plugin, Agent}
use Rattle.session_register.specs.declared.token.Token.{Token}
use Rattle.session_register.specs.declared.row.Row.{Row}
use Rattle.session_register.specs.declared.answer.Created.{Created}
use Rattle.session_register.specs.declared.answer.Open.{Open}
use Rattle.session_register.specs.declared.answer.Closing.{Closing}
use Rattle.session_register.specs.Names.{same_name}
use Rattle.session_register.specs.Rows.{AsksEnded, Counts, Creates, Ends, Entry, IsAnswered, Opens, answer_to_create, answer_to_end, answer_to_open, greatest, opened_row, row_after, session_of}
use Rattle.session_register.specs.Chains.{same_side}
use Rattle.session_register.proofs.NameLemmas.{same_name-true}
use Rattle.session_register.proofs.EntryLemmas.{or-false, or-true, facts, counted_by, counts-same, Effect, effect, nothing}
use Rattle.session_register.proofs.EffectLemmas.{IsSoundAt, TellsRow, tells-nothing, no-row, some-row, unless-new, unless-open, unless-done, unless-none, idle-open, succ-plugin, succ-agent}

same-plugin : (s : List ℕ) (ended : Bool) (tp : List Token) (kp : ℕ) (ta : List Token) (ka : ℕ)
    (token : Token)
    → tp ≢ [] → ta ≢ []
    → facts s ended tp (counted_by kp false true) ta ka
    ≡ option_map (opened_row (Open.Same token) Plugin) (facts s ended tp kp ta ka)
same-plugin s ended [] kp ta ka token p a = absurd (p refl)
same-plugin s ended (l ∷ tp) kp [] ka token p a = absurd (a refl)
same-plugin s ended (l ∷ []) kp (m ∷ []) ka token p a = refl
same-plugin s ended (l ∷ []) kp (m ∷ n ∷ ta) ka token p a = refl
same-plugin s ended (l ∷ k ∷ tp) kp (m ∷ []) ka token p a = refl
same-plugin s ended (l ∷ k ∷ tp) kp (m ∷ n ∷ ta) ka token p a = refl

same-agent : (s : List ℕ) (ended : Bool) (tp : List Token) (kp : ℕ) (ta : List Token) (ka : ℕ)
    (token : Token)
    → tp ≢ [] → ta ≢ []
    → facts s ended tp kp ta (counted_by ka false true)
    ≡ option_map (opened_row (Open.Same token) Agent) (facts s ended tp kp ta ka)
same-agent s ended [] kp ta ka token p a = absurd (p refl)
same-agent s ended (l ∷ tp) kp [] ka token p a = absurd (a refl)
same-agent s ended (l ∷ []) kp (m ∷ []) ka token p a = refl
same-agent s ended (l ∷ []) kp (m ∷ n ∷ ta) ka token p a = refl
same-agent s ended (l ∷ k ∷ tp) kp (m ∷ []) ka token p a = refl
same-agent s ended (l ∷ k ∷ tp) kp (m ∷ n ∷ ta) ka token p a = refl

ended-row : (s : List ℕ) (ended : Bool) (tp : List Token) (kp : ℕ) (ta : List Token) (ka : ℕ)
    → tp ≢ [] → ta ≢ []
    → facts s true tp kp ta ka
    ≡ option_map (λ (r : Row). record r { ended = true }) (facts s ended tp kp ta ka)
ended-row s ended [] kp ta ka p a = absurd (p refl)
ended-row s ended (l ∷ tp) kp [] ka p a = absurd (a refl)
ended-row s ended (l ∷ []) kp (m ∷ []) ka p a = refl
ended-row s ended (l ∷ []) kp (m ∷ n ∷ ta) ka p a = refl
ended-row s ended (l ∷ k ∷ tp) kp (m ∷ []) ka p a = refl
ended-row s ended (l ∷ k ∷ tp) kp (m ∷ n ∷ ta) ka p a = refl

some-cons : (p : Option Token) (tokens : List Token) → tokens ≢ [] → cons_option p tokens ≢ []
some-cons None tokens some is = some is
some-cons (Some t) tokens some is = cc

stays-sound : (s : List ℕ) (ended : Bool) (tp : List Token) (kp : ℕ) (ta : List Token) (ka : ℕ)
    (f : Effect)
    → (tp ≢ []) × (ta ≢ [])
    → IsSoundAt (ended || f.ended) (cons_option f.plugin tp) (counted_by kp f.new_p f.again_p)
    (cons_option f.agent ta) (counted_by ka f.new_a f.again_a)
stays-sound s ended tp kp ta ka f some =
    inr (some-cons f.plugin tp some.0, some-cons f.agent ta some.1)

module _ (s : List ℕ) (ended : Bool) (tp : List Token) (kp : ℕ) (ta : List Token) (ka : ℕ)
    (fits_p : kp ≤ greatest) (fits_a : ka ≤ greatest) where
  abbrev Tells : Effect → Entry → Type 0
  Tells = TellsRow s ended tp kp ta ka

  same_a : counted_by ka false false ≡ ka
  same_a = counts-same ka fits_a

  same_p : counted_by kp false false ≡ kp
  same_p = counts-same kp fits_p

  tells-new : (x : List ℕ) (p a : ℕ) (t u : Token) → x ≡ s → IsSoundAt ended tp kp ta ka
      → Created.New t u ≡ answer_to_create (facts s ended tp kp ta ka) p a
      → Tells (record nothing { plugin = Some t; agent = Some u }) (Creates x p a (Created.New t u))
  tells-new x p a t u same (inl absent) answered = (
    (λ i. facts s (absent.open_still i || false) (t ∷ absent.no_plugin i)
        (counted_by (absent.none_counted_p i) false false)
        (u ∷ absent.no_agent i) (counted_by (absent.none_counted_a i) false false))
        ∙ ap (λ name. row_after (Creates name p a (Created.New t u)) None) (sym same),
    inr ((λ is. cc), (λ is. cc)),
  )
  tells-new x p a t u same (inr some) answered =
      let row = some-row s ended tp kp ta ka some.0 some.1 in
      absurd (unless-new row.0 _ p a t u row.1 answered)

  tells-succ : (x : List ℕ) (r : Side) (t : Token) (f : ℕ) (token : Token)
      → IsSoundAt ended tp kp ta ka
      → Open.Successor token ≡ answer_to_open (facts s ended tp kp ta ka) r t f
      → Tells (record nothing {
        plugin = cond (same_side r Plugin) (Some token) None;
        new_p = same_side r Plugin;
        agent = cond (same_side r Agent) (Some token) None;
        new_a = same_side r Agent;
      }) (Opens x r t f (Open.Successor token))
  tells-succ x r t f token (inl absent) answered =
      let no = unless-open _ r t f (Open.Successor token) (no-row s ended tp kp ta ka absent)
      answered in cc
  tells-succ x Plugin t f token (inr some) answered = (
    (λ i. facts s (or-false ended i) (token ∷ tp) (counted_by kp true false) ta (same_a i))
        ∙ succ-plugin s ended tp kp ta ka token some.0 some.1,
    inr ((λ is. cc), some.1),
  )
  tells-succ x Agent t f token (inr some) answered = (
    (λ i. facts s (or-false ended i) tp (same_p i) (token ∷ ta) (counted_by ka true false))
        ∙ succ-agent s ended tp kp ta ka token some.0 some.1,
    inr (some.0, (λ is. cc)),
  )

  tells-same : (x : List ℕ) (r : Side) (t : Token) (f : ℕ) (token : Token)
      → IsSoundAt ended tp kp ta ka
      → Open.Same token ≡ answer_to_open (facts s ended tp kp ta ka) r t f
      → Tells (record nothing { again_p = same_side r Plugin; again_a = same_side r Agent })
      (Opens x r t f (Open.Same token))
  tells-same x r t f token (inl absent) answered =
      let no = unless-open _ r t f (Open.Same token) (no-row s ended tp kp ta ka absent) answered in
      cc
  tells-same x Plugin t f token (inr some) answered = (
    (λ i. facts s (or-false ended i) tp (counted_by kp false true) ta (same_a i))
        ∙ same-plugin s ended tp kp ta ka token some.0 some.1,
    inr some,
  )
  tells-same x Agent t f token (inr some) answered = (
    (λ i. facts s (or-false ended i) tp (same_p i) ta (counted_by ka false true))
        ∙ same-agent s ended tp kp ta ka token some.0 some.1,
    inr some,
  )

  tells-done : (x : List ℕ) → IsSoundAt ended tp kp ta ka
      → Closing.Done ≡ answer_to_end (facts s ended tp kp ta ka)
      → Tells (record nothing { ended = true }) (Ends x Closing.Done)
  tells-done x (inl absent) answered =
      absurd (unless-done _ (no-row s ended tp kp ta ka absent) answered)
  tells-done x (inr some) answered = (
    (λ i. facts s (or-true ended i) tp (same_p i) ta (same_a i))
        ∙ ended-row s ended tp kp ta ka some.0 some.1,
    inr some,
  )

  tells-no-end : (x : List ℕ) → IsSoundAt ended tp kp ta ka
      → Closing.NoSession ≡ answer_to_end (facts s ended tp kp ta ka)
      → Tells nothing (Ends x Closing.NoSession)
  tells-no-end x (inl absent) answered =
      let none = no-row s ended tp kp ta ka absent in
      tells-nothing s ended tp kp ta ka (Ends x Closing.NoSession) fits_p fits_a (inl absent)
      (ap (option_map (λ (r : Row). record r { ended = true })) none ∙ sym none)
  tells-no-end x (inr some) answered =
      let row = some-row s ended tp kp ta ka some.0 some.1 in
      absurd (unless-none row.0 _ row.1 answered)

  -- what an entry of this session tells
  pub tells : (e : Entry) → same_name (session_of e) s ≡ true → IsSoundAt ended tp kp ta ka
      → IsAnswered (facts s ended tp kp ta ka) e → Tells (effect s e) e
  tells (Creates x p a (Created.New t u)) same sound answered =
      subst (λ f. Tells f (Creates x p a (Created.New t u)))
      (λ i. record nothing {
        plugin = cond (sym same i) (Some t) None;
        agent =
            cond (sym same i) (Some u) None;
      })
      (tells-new x p a t u (same_name-true x s same) sound answered)
  tells (Creates x p a Created.Exists) same sound answered =
      tells-nothing s ended tp kp ta ka (Creates x p a Created.Exists) fits_p fits_a sound refl
  tells (Opens x r t f (Open.Successor token)) same sound answered =
      subst (λ g. Tells g (Opens x r t f (Open.Successor token)))
      (λ i. record nothing {
        plugin = cond (sym same i && same_side r Plugin) (Some token) None;
        new_p = sym same i && same_side r Plugin;
        agent = cond (sym same i && same_side r Agent) (Some token) None;
        new_a = sym same i && same_side r Agent;
      })
      (tells-succ x r t f token sound answered)
  tells (Opens x r t f (Open.Same token)) same sound answered =
      subst (λ g. Tells g (Opens x r t f (Open.Same token)))
      (λ i. record nothing {
        again_p = sym same i && same_side r Plugin;
        again_a =
            sym same i && same_side r Agent;
      })
      (tells-same x r t f token sound answered)
  tells (Opens x r t f Open.NoSession) same sound answered =
      tells-nothing s ended tp kp ta ka (Opens x r t f Open.NoSession) fits_p fits_a sound
      (idle-open Open.NoSession r _ (λ chain. refl))
  tells (Opens x r t f Open.BadToken) same sound answered =
      tells-nothing s ended tp kp ta ka (Opens x r t f Open.BadToken) fits_p fits_a sound
      (idle-open Open.BadToken r _ (λ chain. refl))
  tells (Opens x r t f Open.Ended) same sound answered =
      tells-nothing s ended tp kp ta ka (Opens x r t f Open.Ended) fits_p fits_a sound
      (idle-open Open.Ended r _ (λ chain. refl))
  tells (Opens x r t f Open.Spent) same sound answered =
      tells-nothing s ended tp kp ta ka (Opens x r t f Open.Spent) fits_p fits_a sound
      (idle-open Open.Spent r _ (λ chain. refl))
  tells (Ends x Closing.Done) same sound answered =
      subst (λ f. Tells f (Ends x Closing.Done)) (λ i. record nothing { ended = sym same i })
      (tells-done x sound answered)
  tells (Ends x Closing.NoSession) same sound answered = tells-no-end x sound answered
  tells (AsksEnded x answer) same sound answered =
      tells-nothing s ended tp kp ta ka (AsksEnded x answer) fits_p fits_a sound refl
  tells (Counts x answer) same sound answered =
      tells-nothing s ended tp kp ta ka (Counts x answer) fits_p fits_a sound refl
