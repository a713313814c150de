-- Lines and the actions that were added last: what is moved, and what is taken.
use Rattle.std.proofs.Common.{◌≡◌, ℕ, ◌+◌, ◌-◌, ◌<◌, ◌≤◌, Bool, true, false, cond, nat_eq, Option, Some, None, List, [], ◌∷◌, ◌++◌, add-one, append_assoc, arith, drop, eq-eqb, get_or, length, refl, remove, slice_get, sym, ap, subst, take, ◌∙◌}
use Rattle.std.specs.BTreeMap.{is_at}
use Rattle.std.specs.Ordering.{nat_cmp}
use Rattle.std.proofs.lemmas.Bool.{eqb-true}
use Rattle.std.proofs.lemmas.List.{at_drop_more}
use Rattle.std.proofs.lemmas.Option.{slice_get-get_or}
use Rattle.relay_core.specs.declared.action.Action.{Action}
use Rattle.relay_core.proofs.TestLemmas.{key-conn}
use Rattle.relay_switch.specs.Lines.{LineState, Lines, SameLines, SetsLine, WaitsSame, bytes_in, conn_of, line_in, popped, to_conn, waiting_in, weight, without}
use Rattle.relay_switch.specs.Moves.{left, taking}
use Rattle.relay_switch.specs.Steps.{TakesFirst}
use Rattle.relay_switch.proofs.LineLemmas.{key-true}
use Rattle.relay_switch.proofs.StepLemmas.{WaitsSame-lines, WaitsSame-then}

-- ---- one line

-- the bytes of what is left
pub popped-bytes : (old new : List Action) (a : Action) (bytes : ℕ) → old ≡ a ∷ new
    → bytes ≡ bytes_in old
    → (weight a ≤ bytes) × (bytes - weight a ≡ bytes_in new)
popped-bytes old new a bytes is count =
    let all : bytes ≡ weight a + bytes_in new = count ∙ ap bytes_in is in
    (omega (arith, all), omega (arith, all))

-- ---- an action that is moved into its line

module _ (conn c : ℕ) (action : Action) (rest : List Action) (mid : Lines) (line : LineState)
    (here : conn ≡ conn_of action)
    (is : line ≡ record (line_in mid conn) { waiting = (line_in mid conn).waiting ++ action ∷ [] })
  where
    moved-waiting : (b : Bool) → is_at (nat_cmp conn) c ≡ b
        → (cond b line (line_in mid c)).waiting ++ to_conn c rest
        ≡ (line_in mid c).waiting ++ to_conn c (action ∷ rest)
    moved-waiting true test =
        let same : conn ≡ c = key-true conn c test in
        let its : nat_eq (conn_of action) c ≡ true = eq-eqb (conn_of action) c (sym here ∙ same) in
        ap (λ (l : LineState). l.waiting ++ to_conn c rest) is
        ∙ append_assoc (line_in mid conn).waiting (action ∷ []) (to_conn c rest)
        ∙ ap (λ n. (line_in mid n).waiting ++ action ∷ to_conn c rest) same
        ∙ ap (λ t. (line_in mid c).waiting ++ cond t (action ∷ to_conn c rest) (to_conn c rest))
        (sym its)
    moved-waiting false test =
        let other : nat_eq (conn_of action) c ≡ false =
        ap (λ n. nat_eq n c) (sym here) ∙ sym (key-conn conn c) ∙ test in
        ap (λ t. (line_in mid c).waiting ++ cond t (action ∷ to_conn c rest) (to_conn c rest))
        (sym other)

    moved-open : (b : Bool) → (b ≡ true → conn ≡ c)
        → (cond b line (line_in mid c)).is_open ≡ (line_in mid c).is_open
    moved-open true same =
        ap (λ (l : LineState). l.is_open) is ∙ ap (λ n. (line_in mid n).is_open) (same refl)
    moved-open false same = refl

-- the first of what was added last was moved, or there was no memory for it
pub moved-or-not : (ok : Bool) (conn : ℕ) (old mid new : Lines) (added rest : List Action)
    (first : Action)
    → 0 < length added
    → first ≡ get_or added 0 first
    → conn ≡ conn_of first
    → SameLines old mid
    → SetsLine conn (taking ok added (line_in mid conn)) mid new
    → rest ≡ left ok added
    → WaitsSame old added new rest
moved-or-not true conn old mid new [] rest first some is at kept sets less = absurd (omega arith)
moved-or-not true conn old mid new (x ∷ xs) rest first some is at kept sets less =
    let here : conn ≡ conn_of x = at ∙ ap conn_of is in
    let line = taking true (x ∷ xs) (line_in mid conn) in
    subst (WaitsSame old (x ∷ xs) new) (sym less)
    (WaitsSame-then old (x ∷ xs) mid (x ∷ xs) new xs (WaitsSame-lines old mid (x ∷ xs) kept)
    (record {
      waiting = λ c.
          ap (λ (l : LineState). l.waiting ++ to_conn c xs) (sets c)
          ∙ moved-waiting conn c x xs mid line here refl (is_at (nat_cmp conn) c) refl;
      is_open = λ c.
          ap (λ (l : LineState). l.is_open) (sets c)
          ∙ moved-open conn c x xs mid line here refl (is_at (nat_cmp conn) c)
          (key-true conn c);
    }))
moved-or-not false conn old mid new added rest first some is at kept sets less =
    subst (WaitsSame old added new) (sym less)
    (WaitsSame-then old added mid added new added (WaitsSame-lines old mid added kept)
    (WaitsSame-lines mid new added (λ c. sets c ∙ stays c (is_at (nat_cmp conn) c) (key-true conn c))))
  where
    stays : (c : ℕ) (b : Bool) → (b ≡ true → conn ≡ c)
        → cond b (line_in mid conn) (line_in mid c) ≡ line_in mid c
    stays c true same = ap (line_in mid) (same refl)
    stays c false same = refl

-- the two are the first
pub heads : (xs : List Action) (a b : Action) → 0 < length xs → a ≡ get_or xs 0 a
    → b ≡ get_or xs 0 b
    → a ≡ b
heads [] a b some one two = absurd (omega arith)
heads (x ∷ xs) a b some one two = one ∙ sym two

-- what is left of a list without its first
pub rest-first : (xs : List Action) → remove xs 0 ≡ drop 1 xs
rest-first [] = refl
rest-first (x ∷ xs) = refl

-- the first of a list, as a list
pub take-first : (xs : List Action) (a : Action) → 0 < length xs → a ≡ get_or xs 0 a
    → take 1 xs ≡ a ∷ []
take-first [] a some is = absurd (omega arith)
take-first (x ∷ xs) a some is = ap (λ (y : Action). y ∷ []) (sym is)

-- ---- an action that is taken

-- the first action at a connection is taken out where it stands
pub found-here : (added : List Action) (conn i : ℕ) (a : Action) → i < length added
    → a ≡ get_or added i a → nat_eq (conn_of a) conn ≡ true
    → take i added ++ without conn (drop i added) ≡ without conn added
    → to_conn conn (drop i added) ≡ to_conn conn added
    → (remove added i ≡ without conn added)
    × (slice_get (to_conn conn added) 0 ≡ slice_get added i)
found-here added conn i a within read is taken first =
    let rest = drop (i + 1) added in
    let b = get_or added i a in
    let test : nat_eq (conn_of b) conn ≡ true =
    ap (λ (x : Action). nat_eq (conn_of x) conn) (sym read) ∙ is in
    let out : without conn (drop i added) ≡ rest =
    at_drop_more (without conn) added i a within
    ∙ ap (λ t. cond t rest (b ∷ without conn rest)) test in
    let front : to_conn conn (drop i added) ≡ b ∷ to_conn conn rest =
    at_drop_more (to_conn conn) added i a within
    ∙ ap (λ t. cond t (b ∷ to_conn conn rest) (to_conn conn rest)) test in (
      ap (λ n. take i added ++ drop n added) (sym (add-one i))
          ∙ ap (λ r. take i added ++ r) (sym out) ∙ taken,
      ap (λ xs. slice_get xs 0) (sym first ∙ front) ∙ sym (slice_get-get_or added i a within),
    )

to_conn-if : (b : Bool) (conn : ℕ) (xs ys : List Action)
    → to_conn conn (cond b xs ys) ≡ cond b (to_conn conn xs) (to_conn conn ys)
to_conn-if true conn xs ys = refl
to_conn-if false conn xs ys = refl

-- cases on whether the first is the one's that is taken, and the one's that is looked at
taken-if : (p q same : Bool) (a : Action) (rest left : List Action)
    → (p ≡ true → q ≡ same)
    → (same ≡ true → p ≡ false → q ≡ false)
    → left ≡ cond same (drop 1 rest) rest
    → cond p rest (cond q (a ∷ left) left)
    ≡ cond same (drop 1 (cond q (a ∷ rest) rest)) (cond q (a ∷ rest) rest)
taken-if true q true a rest left here other is =
    ap (λ b. drop 1 (cond b (a ∷ rest) rest)) (sym (here refl))
taken-if true q false a rest left here other is =
    ap (λ b. cond b (a ∷ rest) rest) (sym (here refl))
taken-if false q true a rest left here other is =
    let not_q = other refl refl in
    ap (λ b. cond b (a ∷ left) left) not_q ∙ is
    ∙ ap (λ b. drop 1 (cond b (a ∷ rest) rest)) (sym not_q)
taken-if false true false a rest left here other is = ap (λ l. a ∷ l) is
taken-if false false false a rest left here other is = is

none-if : (b : Bool) → to_conn 0 [] ≡ cond b (drop 1 (to_conn 0 [])) (to_conn 0 [])
none-if true = refl
none-if false = refl

-- what is at the connection loses its first, and what is at the others stays
to_conn-without : (taken conn : ℕ) (added : List Action)
    → to_conn conn (without taken added)
    ≡ cond (nat_eq taken conn) (drop 1 (to_conn conn added)) (to_conn conn added)
to_conn-without taken conn [] = none-if (nat_eq taken conn)
to_conn-without taken conn (a ∷ added) =
    to_conn-if (nat_eq (conn_of a) taken) conn added (a ∷ without taken added)
    ∙ taken-if (nat_eq (conn_of a) taken) (nat_eq (conn_of a) conn) (nat_eq taken conn) a
    (to_conn conn added) (to_conn conn (without taken added))
    (λ here. ap (λ n. nat_eq n conn) (eqb-true (conn_of a) taken here))
    (λ same other. ap (nat_eq (conn_of a)) (sym (eqb-true taken conn same)) ∙ other)
    (to_conn-without taken conn added)

-- where none is at the connection, none is taken out
pub without-none : (conn : ℕ) (added : List Action) → to_conn conn added ≡ []
    → without conn added ≡ added
without-none conn [] none = refl
without-none conn (a ∷ added) none =
    by (nat_eq (conn_of a) conn) (without-none conn added) none
  where
    by : (b : Bool) → (to_conn conn added ≡ [] → without conn added ≡ added)
        → cond b (a ∷ to_conn conn added) (to_conn conn added) ≡ []
        → cond b added (a ∷ without conn added) ≡ a ∷ added
    by true rest never = absurd (cc)
    by false rest nothing = ap (λ l. a ∷ l) (rest nothing)

first-of : (xs ys : List Action) (a : Action) → Some a ≡ slice_get xs 0
    → (Some a ≡ slice_get (xs ++ ys) 0) × (drop 1 xs ++ ys ≡ drop 1 (xs ++ ys))
first-of [] ys a is = absurd (cc)
first-of (x ∷ xs) ys a is = (is, refl)

none-first : (xs : List Action) → None ≡ slice_get xs 0 → xs ≡ []
none-first [] is = refl
none-first (x ∷ xs) is = cc

module _ (conn : ℕ) (old new : Lines) (added : List Action)
    (sets : SetsLine conn (popped (line_in old conn)) old new) where
  abbrev waits : ℕ → List Action
  waits c = (line_in old c).waiting

  popped-line : (c : ℕ) (b : Bool) → nat_eq conn c ≡ b
      → (line_in new c).waiting ≡ cond b (drop 1 (waits c)) (waits c)
  popped-line c b test =
      ap (λ (l : LineState). l.waiting) (sets c)
      ∙ by (is_at (nat_cmp conn) c) (key-true conn c)
      ∙ ap (λ t. cond t (drop 1 (waits c)) (waits c)) (key-conn conn c ∙ test)
    where
      by : (t : Bool) → (t ≡ true → conn ≡ c)
          → (cond t (popped (line_in old conn)) (line_in old c)).waiting
          ≡ cond t (drop 1 (waits c)) (waits c)
      by true same = ap (λ n. drop 1 (waits n)) (same refl)
      by false same = refl

  popped-open : (c : ℕ) → (line_in new c).is_open ≡ (line_in old c).is_open
  popped-open c =
      ap (λ (l : LineState). l.is_open) (sets c) ∙ by (is_at (nat_cmp conn) c) (key-true conn c)
    where
      by : (t : Bool) → (t ≡ true → conn ≡ c)
          → (cond t (popped (line_in old conn)) (line_in old c)).is_open
          ≡ (line_in old c).is_open
      by true same = ap (λ n. (line_in old n).is_open) (same refl)
      by false same = refl

  -- it stood in the line
  pub takes-line : (action : Action) → Some action ≡ slice_get (waits conn) 0
      → TakesFirst old added conn (Some action) new added
  takes-line action first =
      record {
        first = (first-of (waits conn) (to_conn conn added) action first).0;
        waiting = λ c. by c (nat_eq conn c) refl;
        is_open = popped-open;
      }
    where
      by : (c : ℕ) (b : Bool) → nat_eq conn c ≡ b
          → waiting_in new added c
          ≡ cond b (drop 1 (waiting_in old added c)) (waiting_in old added c)
      by c true test =
          let front : Some action ≡ slice_get (waits c) 0 =
          first ∙ ap (λ n. slice_get (waits n) 0) (eqb-true conn c test) in
          ap (λ w. w ++ to_conn c added) (popped-line c true test)
          ∙ (first-of (waits c) (to_conn c added) action front).1
      by c false test = ap (λ w. w ++ to_conn c added) (popped-line c false test)

  -- nothing waited in the line
  pub takes-added : (action : Option Action) (rest : List Action)
      → None ≡ slice_get (waits conn) 0
      → action ≡ slice_get (to_conn conn added) 0
      → rest ≡ without conn added
      → TakesFirst old added conn action new rest
  takes-added action rest none first left =
      record {
        first =
            first
            ∙ ap (λ w. slice_get (w ++ to_conn conn added) 0)
            (sym (none-first (waits conn) none));
        waiting = λ c.
            ap (λ xs. (line_in new c).waiting ++ to_conn c xs) left
            ∙ ap (λ xs. (line_in new c).waiting ++ xs) (to_conn-without conn c added)
            ∙ by c (nat_eq conn c) refl;
        is_open = popped-open;
      }
    where
      by : (c : ℕ) (b : Bool) → nat_eq conn c ≡ b
          → (line_in new c).waiting ++ cond b (drop 1 (to_conn c added)) (to_conn c added)
          ≡ cond b (drop 1 (waiting_in old added c)) (waiting_in old added c)
      by c true test =
          let nothing : waits c ≡ [] =
          ap waits (sym (eqb-true conn c test)) ∙ none-first (waits conn) none in
          ap (λ w. w ++ drop 1 (to_conn c added))
          (popped-line c true test ∙ ap (drop 1) nothing)
          ∙ ap (λ w. drop 1 (w ++ to_conn c added)) (sym nothing)
      by c false test =
          ap (λ w. w ++ to_conn c added) (popped-line c false test)
