-- What is read off a list of calls, after one call more.
use Rattle.std.proofs.Common.{◌≡◌, ℕ, ◌+◌, ◌≤◌, min, Bool, true, false, cond, ◌||◌, ◌&&◌, Option, Some, None, List, [], ◌∷◌, ◌++◌, length, drop, reverse, ap, ◌∙◌, refl, arith}
use Rattle.std.specs.List.{cons_option, count_by, filter_map, list_any}
use Rattle.std.proofs.lemmas.List.{drop-append-le, reverse-append}
use Rattle.std.proofs.lemmas.List.Sums.{sum_by-append}
use Rattle.std.proofs.lemmas.List.Elements.{filter_map-append}
use Rattle.std.proofs.lemmas.List.Folds.{list_any-append}
use Rattle.chan_values.specs.declared.side.Side.{Side}
use Rattle.chan_values.specs.declared.side.Side.TheVariants.{Plugin, Agent}
use Rattle.session_register.specs.declared.token.Token.{Token}
use Rattle.session_register.specs.declared.row.Row.{Row}
use Rattle.session_register.specs.declared.answer.Created.{Created}
use Rattle.session_register.specs.declared.answer.Open.{Open}
use Rattle.session_register.specs.declared.answer.Closing.{Closing}
use Rattle.session_register.specs.Names.{same_name}
use Rattle.session_register.specs.Rows.{AsksEnded, Counts, Creates, Ends, Entry, Opens, counted, greatest, session_of}
use Rattle.session_register.specs.Chains.{chain_told, ends, gives_again, gives_new, is_ended, opening_count, row_told, row_with, same_side, token_given, tokens_given}

pub or-false : (b : Bool) → (b || false) ≡ b
or-false true = refl
or-false false = refl

pub or-true : (b : Bool) → (b || true) ≡ true
or-true true = refl
or-true false = refl

given-one : (p : Option Token) (tokens : List Token) → reverse (cons_option p []) ++ tokens
    ≡ cons_option p tokens
given-one None tokens = refl
given-one (Some t) tokens = refl

pub tokens-push : (cs : List Entry) (e : Entry) (s : List ℕ) (r : Side)
    → tokens_given (cs ++ e ∷ []) s r ≡ cons_option (token_given s r e) (tokens_given cs s r)
unfolding tokens_given
tokens-push cs e s r =
    ap reverse (filter_map-append (token_given s r) cs (e ∷ []))
    ∙ reverse-append (filter_map (token_given s r) cs) (filter_map (token_given s r) (e ∷ []))
    ∙ given-one (token_given s r e) (reverse (filter_map (token_given s r) cs))

pub ended-push : (cs : List Entry) (e : Entry) (s : List ℕ)
    → is_ended (cs ++ e ∷ []) s ≡ (is_ended cs s || ends s e)
unfolding is_ended
ended-push cs e s =
    list_any-append (ends s) cs (e ∷ []) ∙ ap (λ b. list_any (ends s) cs || b) (or-false (ends s e))

-- 1 for an opening that is counted
abbrev pub one : Bool → ℕ
one true = 1
one false = 0

one-cond : (b : Bool) → cond b 1 0 ≡ one b
one-cond true = refl
one-cond false = refl

pub count-push : (p : Entry → Bool) (cs : List Entry) (e : Entry) → count_by p (cs ++ e ∷ []) ≡ count_by
    p cs + one (p e)
count-push p cs e =
    omega (arith, sum_by-append (λ x. cond (p x) 1 0) cs (e ∷ []), one-cond (p e))

drop-push : (from : ℕ) (cs : List Entry) (e : Entry) → from ≤ length cs
    → drop from (cs ++ e ∷ []) ≡ drop from cs ++ e ∷ []
drop-push from cs e within = drop-append-le from cs (e ∷ []) within

pub opening-push : (from : ℕ) (cs : List Entry) (e : Entry) (s : List ℕ) (r : Side) → from ≤ length cs
    → opening_count from (cs ++ e ∷ []) s r
    ≡ min (opening_count from cs s r + (one (gives_new s r e) + one (gives_again s r e))) greatest
unfolding opening_count
opening-push from cs e s r within =
    let new = count-push (gives_new s r) cs e in
    let again = ap (count_by (gives_again s r)) (drop-push from cs e within)
    ∙ count-push (gives_again s r) (drop from cs) e in
    omega (arith, new, again)

-- ---- rows, by what was read off

abbrev pub facts : List ℕ → Bool → List Token → ℕ → List Token → ℕ → Option Row
facts s ended tp kp ta ka = row_with s ended (chain_told tp kp) (chain_told ta ka)

abbrev pub counted_by : ℕ → Bool → Bool → ℕ
counted_by k new again = min (k + (one new + one again)) greatest

pub row-push : (from : ℕ) (cs : List Entry) (e : Entry) (s : List ℕ) → from ≤ length cs
    → row_told from (cs ++ e ∷ []) s
    ≡ facts s (is_ended cs s || ends s e)
    (cons_option (token_given s Plugin e) (tokens_given cs s Plugin))
    (counted_by (opening_count from cs s Plugin) (gives_new s Plugin e) (gives_again s Plugin e))
    (cons_option (token_given s Agent e) (tokens_given cs s Agent))
    (counted_by (opening_count from cs s Agent) (gives_new s Agent e) (gives_again s Agent e))
row-push from cs e s within =
    λ i. facts s (ended-push cs e s i)
    (tokens-push cs e s Plugin i) (opening-push from cs e s Plugin within i)
    (tokens-push cs e s Agent i) (opening-push from cs e s Agent within i)

pub counts-same : (k : ℕ) → k ≤ greatest → counted_by k false false ≡ k
counts-same k within = omega (arith, within)

pub count-within : (from : ℕ) (cs : List Entry) (s : List ℕ) (r : Side)
    → opening_count from cs s r ≤ greatest
unfolding opening_count
count-within from cs s r = omega arith

-- what an entry tells of a session
pub record Effect : Type 0 where
  pub ended : Bool
  pub plugin : Option Token
  pub new_p : Bool
  pub again_p : Bool
  pub agent : Option Token
  pub new_a : Bool
  pub again_a : Bool

abbrev pub effect : List ℕ → Entry → Effect
effect s e = record {
  ended = ends s e;
  plugin = token_given s Plugin e;
  new_p = gives_new s Plugin e;
  again_p = gives_again s Plugin e;
  agent = token_given s Agent e;
  new_a = gives_new s Agent e;
  again_a = gives_again s Agent e;
}

abbrev pub nothing : Effect
nothing = record {
  ended = false;
  plugin = None;
  new_p = false;
  again_p = false;
  agent = None;
  new_a = false;
  again_a = false;
}

abbrev pub with_effect : List ℕ → Bool → List Token → ℕ → List Token → ℕ → Effect → Option Row
with_effect s ended tp kp ta ka f =
    facts s (ended || f.ended) (cons_option f.plugin tp) (counted_by kp f.new_p f.again_p)
    (cons_option f.agent ta) (counted_by ka f.new_a f.again_a)

-- an entry without effect tells nothing new
pub row-same : (from : ℕ) (cs : List Entry) (e : Entry) (s : List ℕ) → from ≤ length cs
    → effect s e ≡ nothing
    → row_told from (cs ++ e ∷ []) s ≡ row_told from cs s
row-same from cs e s within none =
    row-push from cs e s within
    ∙ ap (with_effect s (is_ended cs s) (tokens_given cs s Plugin) (opening_count from cs s Plugin)
    (tokens_given cs s Agent) (opening_count from cs s Agent)) none
    ∙ (λ i. facts s (or-false (is_ended cs s) i)
    (tokens_given cs s Plugin)
    (counts-same (opening_count from cs s Plugin) (count-within from cs s Plugin) i)
    (tokens_given cs s Agent)
    (counts-same (opening_count from cs s Agent) (count-within from cs s Agent) i))

-- an entry of another session has no effect
pub other-effect : (s : List ℕ) (e : Entry) → same_name (session_of e) s ≡ false → effect s e ≡ nothing
other-effect s (Creates x p a (Created.New tp ta)) not =
    λ i. record nothing {
      plugin = cond (not i) (Some tp) None;
      agent = cond (not i) (Some ta) None;
    }
other-effect s (Creates x p a Created.Exists) not = refl
other-effect s (Opens x r t f (Open.Successor token)) not =
    λ i. record nothing {
      plugin = cond (not i && same_side r Plugin) (Some token) None;
      new_p = not i && same_side r Plugin;
      agent = cond (not i && same_side r Agent) (Some token) None;
      new_a = not i && same_side r Agent;
    }
other-effect s (Opens x r t f (Open.Same token)) not =
    λ i. record nothing {
      again_p = not i && same_side r Plugin;
      again_a =
          not i && same_side r Agent;
    }
other-effect s (Opens x r t f Open.NoSession) not = refl
other-effect s (Opens x r t f Open.BadToken) not = refl
other-effect s (Opens x r t f Open.Ended) not = refl
other-effect s (Opens x r t f Open.Spent) not = refl
other-effect s (Ends x Closing.Done) not = λ i. record nothing { ended = not i }
other-effect s (Ends x Closing.NoSession) not = refl
other-effect s (AsksEnded x answer) not = refl
other-effect s (Counts x answer) not = refl
