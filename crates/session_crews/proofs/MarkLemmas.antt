-- The marks that are out while feeders come back.
use Rattle.std.proofs.Common.{◌≡◌, ℕ, ◌+◌, ◌<◌, Bool, true, false, List, [], ◌∷◌, ◌++◌, refl, sym, ap, ◌∙◌, subst, arith}
use Rattle.std.specs.Prelude.{nat_eq, if◌then◌else◌}
use Rattle.std.specs.List.{Contains}
use Rattle.std.proofs.Math.Dec.{T, eqb_refl}
use Rattle.std.proofs.Math.Facts.{eqb_yes}
use Rattle.std.proofs.lemmas.List.Elements.{Contains-append_left, Contains-append_right, Contains-push}
use Rattle.session_feeds.specs.Marks.{ComesBack, Told, same_mark, times}
use Rattle.session_feeds.specs.Sessions.{TakesOut}

plus_assoc : (a b c : ℕ) → a + (b + c) ≡ a + b + c
plus_assoc a b c = omega arith

plus_swap : (a b c : ℕ) → a + b + c ≡ a + c + b
plus_swap a b c = omega arith

pub times-append : (xs ys : List ℕ) (q : ℕ) → times (xs ++ ys) q ≡ times xs q + times ys q
times-append [] ys q = let g : times ys q ≡ 0 + times ys q = omega arith in g
times-append (x ∷ xs) ys q =
    let more = times-append xs ys q in
    ap (λ n. same_mark x q + n) more
    ∙ plus_assoc (same_mark x q) (times xs q) (times ys q)

-- the same marks are out
pub ComesBack-same : (out out' : ℕ → ℕ) (fs : List Told) (left : ℕ → ℕ) → ((q : ℕ) → out' q ≡ out q)
    → ComesBack out fs left → ComesBack out' fs left
ComesBack-same out out' [] left same all = λ q. same q ∙ all q
ComesBack-same out out' (f ∷ fs) left same all = (all.0, (λ q. same q ∙ all.1 q), all.2)

-- the same marks are left
pub ComesBack-left : (out : ℕ → ℕ) (fs : List Told) (left left' : ℕ → ℕ)
    → ((q : ℕ) → left q ≡ left' q)
    → ComesBack out fs left → ComesBack out fs left'
ComesBack-left out [] left left' same all = λ q. all q ∙ same q
ComesBack-left out (f ∷ fs) left left' same all =
    (all.0, all.1, ComesBack-left (λ q. all.0 q + times f.children q) fs left left' same all.2)

-- some feeders and then others
pub ComesBack-then : (out : ℕ → ℕ) (fs gs : List Told) (mid left : ℕ → ℕ)
    → ComesBack out fs mid → ComesBack mid gs left → ComesBack out (fs ++ gs) left
ComesBack-then out [] gs mid left first more = ComesBack-same mid out gs left first more
ComesBack-then out (f ∷ fs) gs mid left first more =
    let rest = ComesBack-then (λ q. first.0 q + times f.children q) fs gs mid left first.2 more in
    (first.0, first.1, rest)

-- while other marks are out too
pub ComesBack-beside : (out : ℕ → ℕ) (fs : List Told) (left more : ℕ → ℕ)
    → ComesBack out fs left → ComesBack (λ q. out q + more q) fs (λ q. left q + more q)
ComesBack-beside out [] left more all = λ q. ap (λ n. n + more q) (all q)
ComesBack-beside out (f ∷ fs) left more all = (
  (λ q. all.0 q + more q),
  (λ q. ap (λ n. n + more q) (all.1 q)
      ∙ sym (plus_assoc (same_mark f.mark q) (all.0 q) (more q))),
  ComesBack-same (λ q. all.0 q + times f.children q + more q)
      (λ q. all.0 q + more q + times f.children q) fs _
      (λ q. plus_swap (all.0 q) (more q) (times f.children q))
      (ComesBack-beside (λ q. all.0 q + times f.children q) fs left more all.2),
)

is_true : (b : Bool) → T b → b ≡ true
is_true true t = refl
is_true false t = absurd t

same_self : (mark : ℕ) → same_mark mark mark ≡ 1
same_self mark = ap (λ b. if b then 1 else 0) (is_true (nat_eq mark mark) (eqb_refl mark))

-- a mark that is counted stands in the list
pub Contains-times : (marks : List ℕ) (mark : ℕ) → 0 < times marks mark → Contains marks mark
Contains-times [] mark some = absurd (omega (arith, some))
Contains-times (m ∷ ms) mark some =
    at_head (nat_eq m mark) refl some (λ more. Contains-times ms mark more)
  where
    at_head : (b : Bool) → nat_eq m mark ≡ b → 0 < (if b then 1 else 0) + times ms mark
        → (0 < times ms mark → Contains ms mark) → Contains (m ∷ ms) mark
    at_head true same some further =
        subst (λ x. Contains (x ∷ ms) mark) (sym (eqb_yes (subst T (sym same) tt)))
        (Contains-append_left (mark ∷ []) ms mark (Contains-push [] mark))
    at_head false other some further =
        Contains-append_right (m ∷ []) ms mark (further (omega (arith, some)))

-- the mark of the next that comes back is out
pub ComesBack-out : (out : List ℕ) (f : Told) (fs : List Told) (left : ℕ → ℕ)
    → ComesBack (times out) (f ∷ fs) left
    → Contains out f.mark
ComesBack-out out f fs left all =
    let e = all.1 f.mark in
    let s = same_self f.mark in
    Contains-times out f.mark (omega (arith, e, s))

-- it came back
pub ComesBack-next : (before after : List ℕ) (f : Told) (fs : List Told) (left : ℕ → ℕ)
    → ComesBack (times before) (f ∷ fs) left
    → TakesOut f before after → ComesBack (times after) fs left
ComesBack-next before after f fs left all out =
    ComesBack-same (λ q. all.0 q + times f.children q) (times after) fs left
    (λ q.
    let e = all.1 q in
    let b = ap (λ l. times l q) out.2 ∙ times-append out.0 (f.mark ∷ out.1) q in
    let a = ap (λ l. times l q) out.3
    ∙ times-append (out.0 ++ out.1) f.children q
    ∙ ap (λ n. n + times f.children q) (times-append out.0 out.1 q) in
    omega (arith, e, b, a))
    all.2
