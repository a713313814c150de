-- A whole frame, and less than one.
use Rattle.std.proofs.Common.{zero, suc, ◌≡◌, ◌≢◌, ℕ, ◌+◌, ◌<◌, Bool, true, false, eqb, ltb, cond, ◌||◌, Option, Some, None, List, [], ◌∷◌, ◌++◌, ⊎_elim, refl, sym, ap, subst, ◌∙◌, append_assoc, arith, length, get_or, w32}
use Rattle.std.specs.Int.{w16, to_le_bytes, from_le_bytes}
use Rattle.std.specs.List.{flat_map, All, AllByRecursion}
use Rattle.std.proofs.lemmas.List.{append-nil, length-append, length_push}
use Rattle.std.proofs.lemmas.List.Concat.{flat_map-append}
use Rattle.std.proofs.lemmas.List.Elements.{All-nil, All-push, recursion_from_All, All-from_recursion}
use Rattle.std.proofs.lemmas.Bool.{eqb-true, eqb-false, ltb-true, or_cases}
use Rattle.std.proofs.lemmas.Nat.{le_bytes_2, le_bytes_4}
use Rattle.smux_frames.specs.declared.frame.Frame.{Frame}
use Rattle.smux_frames.specs.declared.frame.Cmd.TheVariants.{Psh}
use Rattle.smux_frames.specs.declared.fault.FrameFault.{FrameFault}
use Rattle.smux_frames.specs.Spelling.{spelling, code_of, IsFrame, SpellsAll}
use Rattle.smux_frames.specs.Reading.{Reading, read_byte, read, read_frame, cmd_of, fault_of}
use Rattle.smux_frames.specs.Laws.{IsPartial, Means, WhatIsReadIsSpelled}
use Rattle.smux_frames.proofs.Readings.{read_on_none, read_push}

-- each is a byte
abbrev pub AreBytes : List ℕ → Type 0
AreBytes xs = AllByRecursion (λ b. b < 256) xs

none_is_one : {X : Type 0} (b : Bool) (x : X) → cond b None (Some x) ≡ None → b ≡ true
none_is_one true x h = refl
none_is_one false x h = cc

command_of : (c : ℕ) → c < 4 → code_of (cmd_of c) ≡ c
command_of zero l = refl
command_of (suc zero) l = refl
command_of (suc (suc zero)) l = refl
command_of (suc (suc (suc zero))) l = refl
command_of (suc (suc (suc (suc c)))) l = absurd (omega arith)

not_data : (c : ℕ) → c < 4 → cmd_of c ≢ Psh → c ≢ 2
not_data c l n e = n (ap cmd_of e)

no_length : (xs : List ℕ) → length xs ≡ 0 → xs ≡ []
no_length [] h = refl
no_length (x ∷ xs) h = absurd (omega arith)

abbrev pub After : List ℕ → Option Frame → Type 0
After bytes None = IsPartial bytes
After bytes (Some f) = (spelling f ≡ bytes) × IsFrame f

below_two : (l h : ℕ) → l < 256 → h < 256 → (i : ℕ) → get_or (l ∷ h ∷ []) i 0 < 256
below_two l h a b zero = a
below_two l h a b (suc zero) = b
below_two l h a b (suc (suc i)) = omega arith

below_four : (i j k m : ℕ)
    → i < 256
    → j < 256
    → k < 256
    → m < 256
    → (n : ℕ)
    → get_or (i ∷ j ∷ k ∷ m ∷ []) n 0 < 256
below_four i j k m a b c d zero = a
below_four i j k m a b c d (suc zero) = b
below_four i j k m a b c d (suc (suc zero)) = c
below_four i j k m a b c d (suc (suc (suc zero))) = d
below_four i j k m a b c d (suc (suc (suc (suc n)))) = omega arith

whole_is : (c l h i j k m : ℕ) (bytes : List ℕ)
    → c < 4
    → l < 256
    → h < 256
    → i < 256
    → j < 256
    → k < 256
    → m < 256
    → (c ≢ 2 → from_le_bytes w16 (l ∷ h ∷ []) ≡ 0)
    → length bytes ≡ from_le_bytes w16 (l ∷ h ∷ [])
    → After (1 ∷ c ∷ l ∷ h ∷ i ∷ j ∷ k ∷ m ∷ bytes)
    (Some (record {
      cmd = cmd_of c;
      sid = from_le_bytes w32 (i ∷ j ∷ k ∷ m ∷ []);
      payload =
          bytes;
    }))
whole_is c l h i j k m bytes lc ll lh li lj lk lm z e =
    let a = le_bytes_2 (l ∷ h ∷ []) (length bytes) refl (below_two l h ll lh) e in
    let b = le_bytes_4 (i ∷ j ∷ k ∷ m ∷ []) (from_le_bytes w32 (i ∷ j ∷ k ∷ m ∷ [])) refl
    (below_four i j k m li lj lk lm) refl in
    let d = command_of c lc in
    let all : 1 ∷ code_of (cmd_of c) ∷
    (to_le_bytes w16 (length bytes)
    ++ (to_le_bytes w32 (from_le_bytes w32 (i ∷ j ∷ k ∷ m ∷ [])) ++ bytes))
    ≡ 1 ∷ c ∷ ((l ∷ h ∷ []) ++ ((i ∷ j ∷ k ∷ m ∷ []) ++ bytes)) =
    ap (λ (x : List ℕ).
    1 ∷ code_of (cmd_of c) ∷
    (x ++ (to_le_bytes w32 (from_le_bytes w32 (i ∷ j ∷ k ∷ m ∷ [])) ++ bytes))) a
    ∙ ap (λ (x : List ℕ). 1 ∷ code_of (cmd_of c) ∷ ((l ∷ h ∷ []) ++ (x ++ bytes))) b
    ∙ ap (λ (x : ℕ). 1 ∷ x ∷ ((l ∷ h ∷ []) ++ ((i ∷ j ∷ k ∷ m ∷ []) ++ bytes))) d in (
      all,
      record {
        stream = omega arith;
        small = omega arith;
        control =
            λ n. no_length bytes (e ∙ z (not_data c lc n));
      },
    )

pub step_ok : (start : ℕ) (rest : List ℕ) (b : ℕ)
    → AreBytes rest
    → b < 256
    → IsPartial rest
    → fault_of start rest b ≡ None
    → After (rest ++ b ∷ []) (read_frame (rest ++ b ∷ []))
step_ok start [] b bs lb p f = eqb-true b 1 (none_is_one (eqb b 1) _ f)
step_ok start (v ∷ []) b bs lb p f = (p, ltb-true b 4 (none_is_one (ltb b 4) _ f))
step_ok start (v ∷ c ∷ []) b bs lb p f = p
step_ok start (v ∷ c ∷ l ∷ []) b bs lb p f =
    let t = none_is_one (eqb c 2 || eqb (from_le_bytes w16 (l ∷ b ∷ [])) 0) _ f in (
      p.0,
      (
        p.1,
        (
          λ n.
              ⊎_elim (λ (e : eqb c 2 ≡ true). absurd (n (eqb-true c 2 e)))
              (λ (e : eqb (from_le_bytes w16 (l ∷ b ∷ [])) 0 ≡ true). eqb-true _ 0 e)
              (or_cases (eqb c 2) (eqb (from_le_bytes w16 (l ∷ b ∷ [])) 0) t),
          omega arith,
        ),
      ),
    )
step_ok start (v ∷ c ∷ l ∷ h ∷ []) b bs lb p f = (p.0, (p.1.0, (p.1.1.0, omega arith)))
step_ok start (v ∷ c ∷ l ∷ h ∷ i ∷ []) b bs lb p f = (p.0, (p.1.0, (p.1.1.0, omega arith)))
step_ok start (v ∷ c ∷ l ∷ h ∷ i ∷ j ∷ []) b bs lb p f = (p.0, (p.1.0, (p.1.1.0, omega arith)))
step_ok start (v ∷ c ∷ l ∷ h ∷ i ∷ j ∷ k ∷ []) b bs lb p f =
    at (eqb 0 (from_le_bytes w16 (l ∷ h ∷ []))) refl
  where
    at : (t : Bool)
        → eqb 0 (from_le_bytes w16 (l ∷ h ∷ [])) ≡ t
        → After (v ∷ c ∷ l ∷ h ∷ i ∷ j ∷ k ∷ b ∷ [])
        (read_frame (v ∷ c ∷ l ∷ h ∷ i ∷ j ∷ k ∷ b ∷ []))
    at true e = rw (e, p.0)
        (whole_is c l h i j k b [] p.1.0 bs.1.1.0 bs.1.1.1.0 bs.1.1.1.1.0 bs.1.1.1.1.1.0
        bs.1.1.1.1.1.1.0 lb p.1.1.0 (eqb-true 0 (from_le_bytes w16 (l ∷ h ∷ [])) e))
    at false e =
        let n = eqb-false 0 (from_le_bytes w16 (l ∷ h ∷ [])) e in
        rw e (p.0, (p.1.0, (p.1.1.0, omega arith)))
step_ok start (v ∷ c ∷ l ∷ h ∷ i ∷ j ∷ k ∷ m ∷ bytes) b bs lb p f =
    at (eqb (length (bytes ++ b ∷ [])) (from_le_bytes w16 (l ∷ h ∷ []))) refl
  where
    at : (t : Bool)
        → eqb (length (bytes ++ b ∷ [])) (from_le_bytes w16 (l ∷ h ∷ [])) ≡ t
        → After (v ∷ c ∷ l ∷ h ∷ i ∷ j ∷ k ∷ m ∷ (bytes ++ b ∷ []))
        (read_frame (v ∷ c ∷ l ∷ h ∷ i ∷ j ∷ k ∷ m ∷ (bytes ++ b ∷ [])))
    at true e = rw (e, p.0)
        (whole_is c l h i j k m
        (bytes ++ b ∷ []) p.1.0 bs.1.1.0 bs.1.1.1.0 bs.1.1.1.1.0 bs.1.1.1.1.1.0 bs.1.1.1.1.1.1.0
        bs.1.1.1.1.1.1.1.0 p.1.1.0
        (eqb-true (length (bytes ++ b ∷ [])) (from_le_bytes w16 (l ∷ h ∷ [])) e))
    at false e =
        let n = eqb-false (length (bytes ++ b ∷ [])) (from_le_bytes w16 (l ∷ h ∷ [])) e in
        let q = length_push bytes b in rw e (p.0, (p.1.0, (p.1.1.0, omega arith)))
