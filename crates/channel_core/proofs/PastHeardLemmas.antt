-- Whether a message is past the end: what an end knows of it is what the history tells.
use Rattle.std.proofs.Common.{◌≡◌, ◌↔◌, ℕ, ◌<◌, Bool, true, false, cond, Option, Some, None, refl, sym, ap, ◌∙◌, arith, ltb, List}
use Rattle.std.specs.Bool.{IsTrue, MatchBool}
use Rattle.std.proofs.lemmas.Bool.{le-ltb, ltb-false, or_parts}
use Rattle.chan_values.specs.declared.item.Item.{Item}
use Rattle.receive_window.specs.Window.{IsLeastTakenAbove, IsPastEnd, is_below, is_taken}
use Rattle.channel_core.specs.Call.{Entry}
use Rattle.channel_core.specs.History.{next_in_order, taken_items, taken_messages}
use Rattle.channel_core.specs.Legal.{IsLegal, past_end}
use Rattle.channel_core.specs.Numbers.{has_number, least_above, numbers_of, or_else}
use Rattle.channel_core.specs.Stands.{EndState, Stands}
use Rattle.channel_core.proofs.EndLemmas.{least_above-is, least_above-some, seqs_of}
use Rattle.channel_core.proofs.FinishLemmas.{ended}
use Rattle.channel_core.proofs.HeardLemmas.{is_taken-is}
use Rattle.channel_core.proofs.HistoryLemmas.{taken_items-is}
use Rattle.channel_core.proofs.PastLemmas.{past_end-is}

-- an end that stands for a history, and a number that it has not taken
module _ (w : ℕ) (h : List Entry) (old : EndState) (n : ℕ) where
  -- from this one on, an end knows a number where it was taken
  taken_is : IsLegal w h
      → Stands w old h
      → is_taken old.received n ≡ false
      → (k : ℕ)
      → n < k
      → is_taken old.received k ≡ has_number (numbers_of (taken_items h)) k
  taken_is legal s untaken k over =
      let parts = or_parts (ltb n (next_in_order h)) (has_number (numbers_of (taken_items h)) n)
      (sym (is_taken-is w h old n legal s) ∙ untaken) in
      let low = ltb-false n (next_in_order h) parts.0 in
      is_taken-is w h old k legal s ∙ rw (le-ltb k (next_in_order h) (omega arith)) refl

  -- the least taken number above it
  above_is : IsLegal w h
      → Stands w old h
      → is_taken old.received n ≡ false
      → (m : ℕ)
      → IsLeastTakenAbove old.received n m ↔ (least_above (numbers_of (taken_items h)) n ≡ Some m)
  above_is legal s untaken m = (
    λ least. least_above-is (numbers_of (taken_items h)) n m least.0
        (sym (taken_is legal s untaken m least.0) ∙ least.1)
        (λ k over under. sym (taken_is legal s untaken k over) ∙ least.2 k over under),
    λ is.
        let known = least_above-some (numbers_of (taken_items h)) n m is in (
          known.0,
          taken_is legal s untaken m known.0 ∙ known.1,
          λ k over under. taken_is legal s untaken k over ∙ known.2 k over under,
        ),
  )

  -- what the history tells of the end
  past_is : IsLegal w h
      → Stands w old h
      → (last : Bool)
      → past_end (taken_messages h) n last
      ≡ or_else
      (cond (is_below old.received.last n) old.received.last None)
      (cond last (least_above (numbers_of (taken_items h)) n) None)
  past_is legal s last =
      past_end-is (taken_messages h) n last (ended w h legal).topmost
      ∙ ap (λ (o : Option ℕ). or_else (cond (is_below o n) o None)
      (cond last (least_above (seqs_of (taken_messages h)) n) None)) (sym s.last)
      ∙ ap (λ (l : List (ℕ × Item)). or_else
      (cond (is_below old.received.last n) old.received.last None)
      (cond last (least_above (numbers_of l) n) None)) (sym (taken_items-is h))

  -- a message is past the end for the end exactly where the history tells so
  pub past_end-known : IsLegal w h
      → Stands w old h
      → is_taken old.received n ≡ false
      → (last : Bool) (m : ℕ)
      → IsPastEnd old.received n last m ↔ (past_end (taken_messages h) n last ≡ Some m)
  past_end-known legal s untaken last m = (
    λ past. past_is legal s last ∙ told old.received.last last past,
    λ is. tells old.received.last last (sym (past_is legal s last) ∙ is),
  )
    where
      told : (o : Option ℕ) (b : Bool)
          → MatchBool (is_below o n) (o ≡ Some m) (IsTrue b × IsLeastTakenAbove old.received n m)
          → or_else (cond (is_below o n) o None)
          (cond b (least_above (numbers_of (taken_items h)) n) None)
          ≡ Some m
      told None b past = rw past.0 ((above_is legal s untaken m).0 past.1)
      told (Some k) b past = elim (ltb k n) as
          (λ c. MatchBool c (Some k ≡ Some m) (IsTrue b × IsLeastTakenAbove old.received n m)
          → or_else (cond c (Some k) None)
          (cond b (least_above (numbers_of (taken_items h)) n) None)
          ≡ Some m) [
            | true ↦ λ same. same
            | false ↦ λ over. rw over.0 ((above_is legal s untaken m).0 over.1)
          ] past

      above : (b : Bool)
          → cond b (least_above (numbers_of (taken_items h)) n) None ≡ Some m
          → IsTrue b × IsLeastTakenAbove old.received n m
      above true is = (refl, (above_is legal s untaken m).1 is)
      above false is = cc

      tells : (o : Option ℕ) (b : Bool)
          → or_else (cond (is_below o n) o None)
          (cond b (least_above (numbers_of (taken_items h)) n) None)
          ≡ Some m
          → MatchBool (is_below o n) (o ≡ Some m) (IsTrue b × IsLeastTakenAbove old.received n m)
      tells None b is = above b is
      tells (Some k) b is = elim (ltb k n) as
          (λ c. or_else (cond c (Some k) None)
          (cond b (least_above (numbers_of (taken_items h)) n) None)
          ≡ Some m
          → MatchBool c (Some k ≡ Some m) (IsTrue b × IsLeastTakenAbove old.received n m)) [
            | true ↦ λ same. same
            | false ↦ λ over. above b over
          ] is
