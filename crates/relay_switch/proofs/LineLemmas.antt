-- A line in a map, by the test of its key.
use Rattle.std.proofs.Common.{◌≡◌, ℕ, Bool, true, false, cond, Option, Some, None, is_some, unwrap_or, refl, sym, ap, ◌∙◌}
use Rattle.std.specs.BTreeMap.{is_at}
use Rattle.std.specs.Map.{lookup}
use Rattle.std.specs.Ordering.{nat_cmp}
use Rattle.std.proofs.lemmas.Bool.{eqb-true}
use Rattle.relay_core.proofs.TestLemmas.{key-conn}
use Rattle.relay_switch.specs.Lines.{LineState, Lines, empty_line, line_in}

-- a key that passes is the connection
pub key-true : (conn c : ℕ) → is_at (nat_cmp conn) c ≡ true → conn ≡ c
key-true conn c is = eqb-true conn c (sym (key-conn conn c) ∙ is)

module _ (lines : Lines) (conn c : ℕ) where
  abbrev found : Option LineState
  found = lookup (is_at (nat_cmp c)) lines

  put-by : (line : LineState) (b : Bool) → (b ≡ true → conn ≡ c) → line ≡ line_in lines conn
      → unwrap_or (cond b (Some line) found) empty_line ≡ line_in lines c
  put-by line true same is = is ∙ ap (line_in lines) (same refl)
  put-by line false same is = refl

  -- the line of a connection, put in its place
  pub line-put : (new : Lines) (line : LineState) → line ≡ line_in lines conn
      → lookup (is_at (nat_cmp c)) new ≡ cond (is_at (nat_cmp conn) c) (Some line) found
      → line_in new c ≡ line_in lines c
  line-put new line is put =
      ap (λ o. unwrap_or o empty_line) put
      ∙ put-by line (is_at (nat_cmp conn) c) (key-true conn c) is

  gone-by : (b : Bool) → (b ≡ true → conn ≡ c) → line_in lines conn ≡ empty_line
      → unwrap_or (cond b None found) empty_line ≡ line_in lines c
  gone-by true same is = sym is ∙ ap (line_in lines) (same refl)
  gone-by false same is = refl

  -- an empty line that goes
  pub line-gone : (new : Lines) → line_in lines conn ≡ empty_line
      → lookup (is_at (nat_cmp c)) new ≡ cond (is_at (nat_cmp conn) c) None found
      → line_in new c ≡ line_in lines c
  line-gone new is gone =
      ap (λ o. unwrap_or o empty_line) gone
      ∙ gone-by (is_at (nat_cmp conn) c) (key-true conn c) is

  -- a connection has the line that it has
  pub line-stays : (line : LineState) → line ≡ line_in lines conn
      → line_in lines c ≡ cond (is_at (nat_cmp conn) c) line (line_in lines c)
  line-stays line is = stays (is_at (nat_cmp conn) c) (key-true conn c)
    where
      stays : (b : Bool) → (b ≡ true → conn ≡ c)
          → line_in lines c ≡ cond b line (line_in lines c)
      stays true same = ap (line_in lines) (sym (same refl)) ∙ sym is
      stays false same = refl

-- a connection without a line has the empty one
pub line-none : (lines : Lines) (conn : ℕ) → lookup (is_at (nat_cmp conn)) lines ≡ None
    → line_in lines conn ≡ empty_line
line-none lines conn none = ap (λ o. unwrap_or o empty_line) none

pub none-of : {X : Type 0} (o : Option X) → is_some o ≡ false → o ≡ None
none-of None is = refl
none-of (Some x) is = cc
