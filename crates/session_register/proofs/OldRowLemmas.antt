-- The rows that calls left before openings were counted, and those that went on over them.
use Rattle.std.proofs.Common.{◌≡◌, ◌≢◌, inl, inr, ℕ, ◌+◌, ◌-◌, ◌≤◌, min, Bool, true, false, cond, ◌||◌, Option, Some, List, [], ◌∷◌, ◌++◌, map, length, drop, sym, ap, ◌∙◌, refl, subst, append_assoc, append-nil, arith}
use Rattle.std.specs.Option.{option_map}
use Rattle.std.specs.List.{cons_option, count_by}
use Rattle.std.proofs.lemmas.List.{at_drop_all}
use Rattle.chan_values.specs.declared.side.Side.{Side}
use Rattle.chan_values.specs.declared.side.Side.TheVariants.{Plugin, Agent}
use Rattle.session_register.specs.declared.token.Token.{Token}
use Rattle.session_register.specs.declared.row.Row.{Row}
use Rattle.session_register.specs.declared.row.OldRow.{OldRow}
use Rattle.session_register.specs.Names.{same_name}
use Rattle.session_register.specs.Rows.{Entry, IsAnswered, greatest, old_row_of, row_of, session_of, uncounted, upgraded}
use Rattle.session_register.specs.Chains.{AreAnswered, AreUpgraded, ChainsGoOn, GoesOn, Shows, gives_again, gives_new, is_ended, opening_count, row_told, tokens_given}
use Rattle.session_register.proofs.NameLemmas.{same_name-true}
use Rattle.session_register.proofs.EntryLemmas.{Effect, count-push, effect, ended-push, facts, one, other-effect, tokens-push}
use Rattle.session_register.proofs.EffectLemmas.{IsSound, IsSoundAt}
use Rattle.session_register.proofs.ChainLemmas.{leads-on}
use Rattle.session_register.proofs.OldChainLemmas.{IsNumbered, IsCountedAt, keeps, no_facts, counts}

-- ---- what a list of calls tells, each answered after those before it

record Counted : Type 0 where
  ended : Bool
  tp : List Token
  np : ℕ
  ta : List Token
  na : ℕ

abbrev CountedOf : Counted → Type 0
CountedOf k = IsCountedAt k.ended k.tp k.np k.ta k.na

abbrev told : List Entry → List ℕ → Counted
told cs s = record {
  ended = is_ended cs s;
  tp = tokens_given cs s Plugin;
  np = count_by (gives_new s Plugin) cs;
  ta = tokens_given cs s Agent;
  na = count_by (gives_new s Agent) cs;
}

abbrev told_with : Counted → Effect → Counted
told_with k f = record {
  ended = k.ended || f.ended;
  tp = cons_option f.plugin k.tp;
  np = k.np + one f.new_p;
  ta = cons_option f.agent k.ta;
  na = k.na + one f.new_a;
}

told-push : (cs : List Entry) (e : Entry) (s : List ℕ)
    → told (cs ++ e ∷ []) s ≡ told_with (told cs s) (effect s e)
told-push cs e s = λ i. record {
  ended = ended-push cs e s i;
  tp = tokens-push cs e s Plugin i;
  np = count-push (gives_new s Plugin) cs e i;
  ta = tokens-push cs e s Agent i;
  na = count-push (gives_new s Agent) cs e i;
}

abbrev IsCounted : List Entry → Type 0
IsCounted cs = (s : List ℕ) → CountedOf (told cs s)

counted-by : (from : ℕ) (cs : List Entry) (e : Entry) (s : List ℕ) (b : Bool)
    → same_name (session_of e) s ≡ b → IsCounted cs → GoesOn from cs e
    → CountedOf (told_with (told cs s) (effect s e))
counted-by from cs e s true is counted answered =
    counts s (is_ended cs s) (tokens_given cs s Plugin) _ (tokens_given cs s Agent) _
    (opening_count from cs s Plugin) (opening_count from cs s Agent) (counted s) e is
    (subst (λ name. IsAnswered (row_told from cs name) e) (same_name-true (session_of e) s is)
    answered)
counted-by from cs e s false is counted answered =
    subst (λ f. CountedOf (told_with (told cs s) f)) (sym (other-effect s e is))
    (keeps (is_ended cs s) (tokens_given cs s Plugin) _ (tokens_given cs s Agent) _ (counted s))

counted-push : (from : ℕ) (cs : List Entry) (e : Entry) → IsCounted cs → GoesOn from cs e
    → IsCounted (cs ++ e ∷ [])
counted-push from cs e counted answered = λ s.
    subst CountedOf (sym (told-push cs e s))
    (counted-by from cs e s (same_name (session_of e) s) refl counted answered)

counted-all : (from : ℕ) (before cs : List Entry) → IsCounted before → AreAnswered from before cs
    → IsCounted (before ++ cs)
counted-all from before [] counted answered = subst IsCounted (sym (append-nil before)) counted
counted-all from before (e ∷ cs) counted answered =
    subst IsCounted (append_assoc before (e ∷ []) cs)
    (counted-all from (before ++ e ∷ []) cs (counted-push from before e counted answered.0)
    answered.1)

counted-nil : IsCounted []
unfolding is_ended tokens_given
counted-nil s = inl record {
  open_still = refl;
  no_plugin = refl;
  none_counted_p = refl;
  no_agent = refl;
  none_counted_a = refl;
}

-- ---- the rows that such calls left, upgraded

-- no opening with the last token again is counted before the place
openings-before : (cs : List Entry) (s : List ℕ) (r : Side)
    → opening_count (length cs) cs s r ≡ min (count_by (gives_new s r) cs) greatest
unfolding opening_count
openings-before cs s r =
    let none : count_by (gives_again s r) (drop (length cs) cs) ≡ 0 =
    at_drop_all (count_by (gives_again s r)) cs (length cs) (omega arith) in
    omega (arith, none)

has_tokens : (tokens : List Token) (before : ℕ) → IsNumbered tokens before → tokens ≢ []
has_tokens [] before numbered = absurd numbered
has_tokens (l ∷ tokens) before numbered = λ is. absurd (cc)

sound-by : (ended : Bool) (tp : List Token) (np kp : ℕ) (ta : List Token) (na ka : ℕ)
    → IsCountedAt ended tp np ta na → kp ≡ min np greatest → ka ≡ min na greatest
    → IsSoundAt ended tp kp ta ka
sound-by ended tp np kp ta na ka (inl absent) is_p is_a =
    let zero_p = absent.none_counted_p in
    let zero_a = absent.none_counted_a in
    inl record {
      open_still = absent.open_still;
      no_plugin = absent.no_plugin;
      none_counted_p = omega (arith, is_p, zero_p);
      no_agent = absent.no_agent;
      none_counted_a = omega (arith, is_a, zero_a);
    }
sound-by ended tp np kp ta na ka (inr counted) is_p is_a =
    inr (has_tokens tp np counted.0, has_tokens ta na counted.1)

-- one for each token but the first
counts-last : (last : Token) (before count : ℕ) → (last.count ≡ before + 1)
    × (last.count ≤ greatest)
    → count ≡ min before greatest → last.count - 1 ≡ count
counts-last last before count numbered is = omega (arith, numbered.0, numbered.1, is)

-- a row less its counts, upgraded
abbrev back : Option Row → Option Row
back row = option_map upgraded (option_map uncounted row)

back-facts : (s : List ℕ) (ended : Bool) (tp : List Token) (np ip kp : ℕ) (ta : List Token)
    (na ia ka : ℕ) → IsCountedAt ended tp np ta na → kp ≡ min np greatest → ka ≡ min na greatest
    → back (facts s ended tp ip ta ia) ≡ facts s ended tp kp ta ka
back-facts s ended tp np ip kp ta na ia ka (inl absent) is_p is_a =
    ap back (no_facts s ended tp ip ta ia absent.no_plugin)
    ∙ sym (no_facts s ended tp kp ta ka absent.no_plugin)
back-facts s ended [] np ip kp ta na ia ka (inr counted) is_p is_a = absurd counted.0
back-facts s ended (l ∷ tp) np ip kp [] na ia ka (inr counted) is_p is_a = absurd counted.1
back-facts s ended (l ∷ []) np ip kp (m ∷ []) na ia ka (inr counted) is_p is_a = λ i.
    facts s ended (l ∷ []) (counts-last l np kp counted.0 is_p i)
    (m ∷ []) (counts-last m na ka counted.1 is_a i)
back-facts s ended (l ∷ []) np ip kp (m ∷ n ∷ ta) na ia ka (inr counted) is_p is_a = λ i.
    facts s ended (l ∷ []) (counts-last l np kp counted.0 is_p i)
    (m ∷ n ∷ ta) (counts-last m na ka counted.1 is_a i)
back-facts s ended (l ∷ k ∷ tp) np ip kp (m ∷ []) na ia ka (inr counted) is_p is_a = λ i.
    facts s ended (l ∷ k ∷ tp) (counts-last l np kp counted.0 is_p i)
    (m ∷ []) (counts-last m na ka counted.1 is_a i)
back-facts s ended (l ∷ k ∷ tp) np ip kp (m ∷ n ∷ ta) na ia ka (inr counted) is_p is_a = λ i.
    facts s ended (l ∷ k ∷ tp) (counts-last l np kp counted.0 is_p i)
    (m ∷ n ∷ ta) (counts-last m na ka counted.1 is_a i)

-- the row of a session among rows that were upgraded
pub row_of-upgraded : (old : List OldRow) → AreUpgraded old (map upgraded old)
row_of-upgraded [] s = refl
row_of-upgraded (row ∷ old) s = by (same_name s row.session) (row_of-upgraded old s)
  where
    by : (b : Bool) → row_of (map upgraded old) s ≡ option_map upgraded (old_row_of old s)
        → cond b (Some (upgraded row)) (row_of (map upgraded old) s)
        ≡ option_map upgraded (cond b (Some row) (old_row_of old s))
    by true later = refl
    by false later = later

-- ---- all calls, with the place between them

answered-append : (from : ℕ) (before xs ys : List Entry) → AreAnswered from before xs
    → AreAnswered from (before ++ xs) ys → AreAnswered from before (xs ++ ys)
answered-append from before [] ys first second =
    subst (λ b. AreAnswered from b ys) (append-nil before) second
answered-append from before (x ∷ xs) ys first second = (
  first.0,
  answered-append from (before ++ x ∷ []) xs ys first.1
      (subst (λ b. AreAnswered from b ys) (sym (append_assoc before (x ∷ []) xs)) second),
)

pub chains-go-on : ChainsGoOn
chains-go-on before cs old first rows answered shows upgraded_rows leads =
    let counted : IsCounted before = counted-all (length before) [] before counted-nil answered in
    let plugin = λ (s : List ℕ). openings-before before s Plugin in
    let agent = λ (s : List ℕ). openings-before before s Agent in
    let sound : IsSound (length before) before = λ s.
    sound-by (is_ended before s) (tokens_given before s Plugin) _ _
    (tokens_given before s Agent) _ _
    (counted s) (plugin s) (agent s) in
    let upgrades : Shows (length before) before first = λ s.
    upgraded_rows s ∙ ap (option_map upgraded) (shows s)
    ∙ back-facts s (is_ended before s) (tokens_given before s Plugin) _ _ _
    (tokens_given before s Agent) _ _ _ (counted s) (plugin s) (agent s) in
    let later = leads-on (length before) before cs first rows (omega arith) sound
    upgrades leads in
    (answered-append (length before) [] before cs answered later.0, later.1)
