-- Calls one after another make one chain.
use Rattle.std.proofs.Common.{◌≡◌, ℕ, ◌+◌, ◌≤◌, Bool, true, false, cond, ◌||◌, inl, Some, List, [], ◌∷◌, ◌++◌, length, length-append, sym, ap, ◌∙◌, refl, subst, append_assoc, append-nil, arith}
use Rattle.std.specs.List.{cons_option}
use Rattle.chan_values.specs.declared.side.Side.TheVariants.{Plugin, Agent}
use Rattle.session_register.specs.declared.token.Token.{Token}
use Rattle.session_register.specs.declared.row.Row.{Row}
use Rattle.session_register.specs.Names.{same_name}
use Rattle.session_register.specs.Rows.{Changes, Entry, IsAnswered, Meets, row_after, row_of, session_of}
use Rattle.session_register.specs.Chains.{AreAnswered, ChainsHold, GoesOn, Leads, Shows, is_ended, opening_count, row_told, tokens_given}
use Rattle.session_register.proofs.NameLemmas.{same_name-true}
use Rattle.session_register.proofs.EntryLemmas.{or-false, tokens-push, ended-push, one, opening-push, counted_by, row-push, counts-same, count-within, Effect, effect, nothing, row-same, other-effect}
use Rattle.session_register.proofs.EffectLemmas.{IsSoundAt, IsSound}
use Rattle.session_register.proofs.SameLemmas.{tells}

pub record Known : Type 0 where
  pub ended : Bool
  pub tp : List Token
  pub kp : ℕ
  pub ta : List Token
  pub ka : ℕ

abbrev pub SoundOf : Known → Type 0
SoundOf k = IsSoundAt k.ended k.tp k.kp k.ta k.ka

abbrev pub known : ℕ → List Entry → List ℕ → Known
known from cs s = record {
  ended = is_ended cs s;
  tp = tokens_given cs s Plugin;
  kp = opening_count from cs s Plugin;
  ta = tokens_given cs s Agent;
  ka = opening_count from cs s Agent;
}

abbrev pub known_with : Known → Effect → Known
known_with k f = record {
  ended = k.ended || f.ended;
  tp = cons_option f.plugin k.tp;
  kp = counted_by k.kp f.new_p f.again_p;
  ta = cons_option f.agent k.ta;
  ka = counted_by k.ka f.new_a f.again_a;
}

known-push : (from : ℕ) (cs : List Entry) (e : Entry) (s : List ℕ) → from ≤ length cs
    → known from (cs ++ e ∷ []) s ≡ known_with (known from cs s) (effect s e)
known-push from cs e s within =
    λ i. record {
      ended = ended-push cs e s i;
      tp = tokens-push cs e s Plugin i;
      kp = opening-push from cs e s Plugin within i;
      ta = tokens-push cs e s Agent i;
      ka = opening-push from cs e s Agent within i;
    }

known-same : (from : ℕ) (cs : List Entry) (s : List ℕ) → known_with (known from cs s) nothing
    ≡ known from cs s
known-same from cs s =
    λ i. record {
      ended = or-false (is_ended cs s) i;
      tp = tokens_given cs s Plugin;
      kp = counts-same (opening_count from cs s Plugin) (count-within from cs s Plugin) i;
      ta = tokens_given cs s Agent;
      ka = counts-same (opening_count from cs s Agent) (count-within from cs s Agent) i;
    }

row-named : (from : ℕ) (cs : List Entry) (e : Entry) (s : List ℕ) (b : Bool) → from ≤ length cs
    → same_name (session_of e) s ≡ b → IsSound from cs → GoesOn from cs e
    → (row_told from (cs ++ e ∷ []) s
    ≡ cond b (row_after e (row_told from cs (session_of e))) (row_told from cs s))
    × IsSoundAt (is_ended (cs ++ e ∷ []) s)
    (tokens_given (cs ++ e ∷ []) s Plugin) (opening_count from (cs ++ e ∷ []) s Plugin)
    (tokens_given (cs ++ e ∷ []) s Agent) (opening_count from (cs ++ e ∷ []) s Agent)
row-named from cs e s true within is sound answered =
    let same = same_name-true (session_of e) s is in
    let told = tells s (is_ended cs s) (tokens_given cs s Plugin) (opening_count from cs s Plugin)
    (tokens_given cs s Agent) (opening_count from cs s Agent)
    (count-within from cs s Plugin) (count-within from cs s Agent) e is (sound s)
    (subst (λ name. IsAnswered (row_told from cs name) e) same answered) in (
      row-push from cs e s within ∙ told.0 ∙ ap (λ name. row_after e (row_told from cs name))
          (sym same),
      subst SoundOf (sym (known-push from cs e s within)) told.1,
    )
row-named from cs e s false within is sound answered = (
  row-same from cs e s within (other-effect s e is),
  subst SoundOf
      (sym (known-push from cs e s within ∙ ap (known_with (known from cs s)) (other-effect s e is)
      ∙ known-same from cs s))
      (sound s),
)

-- one call more over rows that the calls tell
pub goes-on : (from : ℕ) (cs : List Entry) (e : Entry) (rows new : List Row) → from ≤ length cs
    → IsSound from cs → Shows from cs rows → Meets e (Some rows) (Some new)
    → GoesOn from cs e × IsSound from (cs ++ e ∷ []) × Shows from (cs ++ e ∷ []) new
goes-on from cs e rows new within sound shows meets =
    let answered : GoesOn from cs e = subst (λ row. IsAnswered row e) (shows (session_of e)) meets.0
    in
    let is_new : meets.1.0 ≡ new = cc (meets.1.1) in
    let changes : Changes e rows new = subst (Changes e rows) is_new meets.1.2 in (
      answered,
      (λ s. (row-named from cs e s (same_name (session_of e) s) within refl sound answered).1),
      (λ s. changes s
          ∙ (λ i. cond (same_name (session_of e) s) (row_after e (shows (session_of e) i))
          (shows s i))
          ∙ sym (row-named from cs e s (same_name (session_of e) s) within refl sound answered).0),
    )

pub leads-on : (from : ℕ) (before cs : List Entry) (rows new : List Row) → from ≤ length before
    → IsSound from before → Shows from before rows → Leads rows cs new
    → AreAnswered from before cs × Shows from (before ++ cs) new
leads-on from before [] rows new within sound shows leads = (
  tt,
  λ s. ap (λ (r : List Row). row_of r s) leads ∙ shows s ∙ ap (λ es. row_told from es s)
      (sym (append-nil before)),
)
leads-on from before (e ∷ cs) rows new within sound shows leads =
    let step = goes-on from before e rows leads.0 within sound shows leads.1 in
    let rest = leads-on from (before ++ e ∷ []) cs leads.0 new
    (omega (arith, length-append before (e ∷ []))) step.1 step.2 leads.2 in (
      (step.0, rest.0),
      λ s. rest.1 s ∙ ap (λ es. row_told from es s)
          (append_assoc before (e ∷ []) cs),
    )

sound-nil : IsSound 0 []
unfolding is_ended tokens_given opening_count
sound-nil s = inl record {
  open_still = refl;
  no_plugin = refl;
  none_counted_p = refl;
  no_agent =
      refl;
  none_counted_a = refl;
}

shows-nil : Shows 0 [] []
unfolding is_ended tokens_given opening_count
shows-nil s = refl

pub chains-hold : ChainsHold
chains-hold cs rows leads = leads-on 0 [] cs [] rows (omega arith) sound-nil shows-nil leads
