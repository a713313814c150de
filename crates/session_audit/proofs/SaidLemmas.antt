-- What the sayings of a journal say of one end, up to a place.
use Rattle.std.proofs.Common.{◌≡◌, ℕ, ◌+◌, ◌<◌, ◌≤◌, zero, suc, Option, Some, None, List, [], ◌∷◌, ◌++◌, refl, sym, ap, subst, ◌∙◌, arith, get_or, length, slice_get, take}
use Rattle.std.specs.List.{All, cons_option}
use Rattle.std.proofs.lemmas.Grind.{take_at_read}
use Rattle.std.proofs.lemmas.List.{append-nil}
use Rattle.std.proofs.lemmas.List.Elements.{All-push, filter_map-append}
use Rattle.std.proofs.lemmas.Option.{get_or_from_slice_get, none-some, same_Some, slice_get_past, slice_get_within}
use Rattle.chan_values.specs.declared.side.Side.{Side}
use Rattle.chan_values.specs.declared.side.Side.TheVariants.{Plugin, Agent}
use Rattle.chan_values.specs.Sides.{other}
use Rattle.session_audit.specs.declared.act.Act.{Act}
use Rattle.session_audit.specs.declared.reading.Saying.{Saying}
use Rattle.session_audit.specs.Playing.{SaysAct, Skips, act_said, acts_before, acts_said}

-- the element that is read at a place
pub slice_get-at : {X : Type 0} (xs : List X) (n : ℕ) (x : X)
    → n < length xs
    → x ≡ get_or xs n x
    → slice_get xs n ≡ Some x
slice_get-at [] n x below is = absurd (omega (arith, below))
slice_get-at {X} (y ∷ xs) zero x below is = ap (λ (z : X). Some z) (sym is)
slice_get-at (y ∷ xs) (suc n) x below is = slice_get-at xs n x (omega (arith, below)) is

-- a list up to one place more
pub take-more : {X : Type 0} (xs : List X) (n : ℕ) (x : X)
    → slice_get xs n ≡ Some x
    → take (n + 1) xs ≡ take n xs ++ x ∷ []
take-more {X} xs n x is =
    (take_at_read xs n x (slice_get_within xs n x is)).1
    ∙ ap (λ (y : X). take n xs ++ y ∷ []) (get_or_from_slice_get xs n x x is)

pub act_said-same : (side : Side) (o : Option Act) → act_said side side o ≡ o
act_said-same Plugin o = refl
act_said-same Agent o = refl

pub act_said-other : (side : Side) (o : Option Act) → act_said side (other side) o ≡ None
act_said-other Plugin o = refl
act_said-other Agent o = refl

pub acts_said-append : (side : Side) (xs ys : List Saying)
    → acts_said side (xs ++ ys) ≡ acts_said side xs ++ acts_said side ys
unfolding acts_said
acts_said-append side xs ys =
    filter_map-append (λ (s : Saying). act_said side s.side s.act) xs ys

acts_said-one : (side : Side) (s : Saying)
    → acts_said side (s ∷ []) ≡ cons_option (act_said side s.side s.act) []
unfolding acts_said
acts_said-one side s = refl

pub acts_before-start : (side : Side) (sayings : List Saying) → acts_before side sayings 0 ≡ []
unfolding acts_said
acts_before-start side sayings = refl

-- one saying more
acts_before-more : (side : Side) (sayings : List Saying) (n : ℕ) (s : Saying)
    → slice_get sayings n ≡ Some s
    → acts_before side sayings (n + 1)
    ≡ acts_before side sayings n ++ cons_option (act_said side s.side s.act) []
acts_before-more side sayings n s is =
    ap (acts_said side) (take-more sayings n s is)
    ∙ acts_said-append side (take n sayings) (s ∷ [])
    ∙ ap (λ (l : List Act). acts_before side sayings n ++ l) (acts_said-one side s)

-- of this end
pub acts_before-here : (side : Side) (sayings : List Saying) (n : ℕ) (s : Saying) (act : Act)
    → slice_get sayings n ≡ Some s
    → s.side ≡ side
    → s.act ≡ Some act
    → acts_before side sayings (n + 1) ≡ acts_before side sayings n ++ act ∷ []
acts_before-here side sayings n s act is here says =
    acts_before-more side sayings n s is
    ∙ ap
    (λ (o : Option Act). acts_before side sayings n ++ cons_option o [])
    (ap (λ (z : Side). act_said side z s.act) here ∙ act_said-same side s.act ∙ says)

-- of the other end
pub acts_before-there : (side : Side) (sayings : List Saying) (n : ℕ) (s : Saying)
    → slice_get sayings n ≡ Some s
    → s.side ≡ other side
    → acts_before side sayings (n + 1) ≡ acts_before side sayings n
acts_before-there side sayings n s is there =
    acts_before-more side sayings n s is
    ∙ ap
    (λ (o : Option Act). acts_before side sayings n ++ cons_option o [])
    (ap (λ (z : Side). act_said side z s.act) there ∙ act_said-other side s.act)
    ∙ append-nil (acts_before side sayings n)

-- ---- going on to the next saying of an end

pub side_apart : (side : Side) → other side ≡ side → ⊥
side_apart Plugin is = cc
side_apart Agent is = cc

-- the sayings of the other end between two places
pub record IsPassed (side : Side) (sayings : List Saying) (from to : ℕ) : Type 0 where
  pub within : from ≤ length sayings → to ≤ length sayings
  pub forth : from ≤ to
  pub acts : acts_before side sayings to ≡ acts_before side sayings from
  pub said : All (SaysAct side) (take from sayings) → All (SaysAct side) (take to sayings)

pub passed_none : (side : Side) (sayings : List Saying) (from : ℕ) → IsPassed side sayings from from
passed_none side sayings from =
    record { within = λ within. within; forth = omega arith; acts = refl; said = λ all. all }

pub passed_one : (side : Side) (sayings : List Saying) (from at : ℕ) (s : Saying)
    → IsPassed side sayings from at
    → slice_get sayings at ≡ Some s
    → s.side ≡ other side
    → IsPassed side sayings from (at + 1)
passed_one side sayings from at s x is there =
    let below = slice_get_within sayings at s is in
    let forth = x.forth in
    record {
      within = λ _. omega (arith, below);
      forth = omega (arith, forth);
      acts = acts_before-there side sayings at s is there ∙ x.acts;
      said = λ all.
          subst (All (SaysAct side)) (sym (take-more sayings at s is))
          (All-push (SaysAct side) (take at sayings) s (x.said all)
          (λ here _. side_apart side (sym there ∙ here)));
    }

pub passed_to : (side : Side) (sayings : List Saying) (from at : ℕ)
    → IsPassed side sayings from at
    → ((s : Saying) → slice_get sayings at ≡ Some s → s.side ≡ side)
    → Skips side sayings from at
passed_to side sayings from at x found =
    record {
      within = x.within;
      forth = x.forth;
      acts = x.acts;
      said = x.said;
      found = found;
    }

-- at the end there is none
pub passed_all : (side : Side) (sayings : List Saying) (from at : ℕ)
    → IsPassed side sayings from at
    → length sayings ≤ at
    → Skips side sayings from at
passed_all side sayings from at x past =
    passed_to side sayings from at x
    (λ s is. absurd (none-some s (sym (slice_get_past sayings at past) ∙ is)))

-- at a saying of the end there is one
pub passed_here : (side : Side) (sayings : List Saying) (from at : ℕ) (it : Saying)
    → IsPassed side sayings from at
    → slice_get sayings at ≡ Some it
    → it.side ≡ side
    → Skips side sayings from at
passed_here side sayings from at it x is here =
    passed_to side sayings from at x
    (λ s there. ap (λ (y : Saying). y.side) (sym (same_Some it s (sym is ∙ there))) ∙ here)
