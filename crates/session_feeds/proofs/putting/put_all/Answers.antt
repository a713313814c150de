use Rattle.std.proofs.Common.{◌≡◌, ℕ, suc, ◌-◌, arith, List, length, ◌++◌, ◌∷◌, [], ◌∙◌, sym, ap, subst, append_assoc}
use Rattle.std.specs.Prelude.{◌&&◌, ◌==◌}
use Rattle.std.specs.List.{flat_map}
use Rattle.std.proofs.lemmas.List.{nil_from_length}
use Rattle.session_run.specs.Adds.{AddsCalls}
use Rattle.session_run.proofs.AddsLemmas.{AddsCalls-none, AddsCalls-then}
use Rattle.session_feeds.specs.Puts.{is_stop, trial_calls}
use Rattle.session_feeds.proofs.ListLemmas.{flat_map-push}
use Rattle.session_feeds.proofs.PutLemmas.{Tries, Tries-all, Tries-more, Tries-none, Tries-stopped}
use Rattle.session_feeds.proofs.putting.put_all.Goals as goal

-- one member fewer is left
fewer : {X : Type 0} (rest next : List X) (x : X) (left : ℕ)
    → rest ≡ x ∷ next
    → left ≡ length rest
    → left - 1 ≡ length next
fewer rest next x left is left_is =
    let e : left ≡ suc (length next) = left_is ∙ ap (λ l. length l) is in omega (arith, e)

pub loop-item-preserved : goal.loop-item-preserved
loop-item-preserved g c =
    let m = c.loop-item.invariant in
    let t = c.put_item-put.ensures in
    let is = c.in-Some.ensures.steps.0 in (
      m.0
          ∙ ap (λ l. c.loop-item.yielded ++ l) is
          ∙ sym (append_assoc c.loop-item.yielded (c.in-Some.item ∷ []) c.next.new.self.rest.items),
      fewer _ _ _ _ is m.1,
      m.2 ++ t.0 ∷ [],
      Tries-more c.args.last _ _ _ _ c.in-Some.item _ m.3 is t.1.item
          (t.1.as_last
          ∙ ap (λ (n : ℕ). c.args.last && (n == 0)) (fewer _ _ _ _ is m.1))
          t.1.is_last (ap is_stop t.1.answer ∙ c.if-not-is_number.ensures),
      subst (λ l. AddsCalls c.args.seat.now l c.put_item-put.new.seat)
          (sym (flat_map-push trial_calls m.2 t.0))
          (AddsCalls-then _ _ _ (flat_map trial_calls m.2) (trial_calls t.0) m.4 t.1.calls),
    )

pub returns-then-not-is_number : goal.returns-then-not-is_number
returns-then-not-is_number g c =
    let m = c.loop-item.invariant in
    let t = c.put_item-put.ensures in
    let is = c.in-Some.ensures.steps.0 in (
      m.2 ++ t.0 ∷ [],
      record {
        puts =
            Tries-stopped c.args.last _ _ _ _ c.in-Some.item _ m.3 is t.1.item
            (t.1.as_last
            ∙ ap (λ (n : ℕ). c.args.last && (n == 0)) (fewer _ _ _ _ is m.1))
            t.1.is_last (ap is_stop t.1.answer ∙ c.if-not-is_number.ensures);
        calls =
            subst (λ l. AddsCalls c.args.seat.now l c.put_item-put.new.seat)
            (sym (flat_map-push trial_calls m.2 t.0))
            (AddsCalls-then _ _ _ (flat_map trial_calls m.2) (trial_calls t.0) m.4 t.1.calls);
      },
    )

pub returns : goal.returns
returns g c =
    let m = c.loop-item.invariant in (
      m.2,
      record {
        puts =
            Tries-all c.args.last _ _ _ m.3
            (nil_from_length c.loop-item.item-iterator.rest.items
            (sym c.loop-item.item-iterator.rest.ok.0 ∙ c.in-None.ensures.steps.0));
        calls = m.4;
      },
    )

pub loop-item-init : goal.loop-item-init
loop-item-init g c =
    let gives = sym c.into_iter-item-iterator.ensures.into_iter_gives.0 in (
      gives,
      c.len-left.ensures ∙ c.args.items.ok.0 ∙ ap (λ l. length l) gives,
      [],
      subst (λ r. Tries c.args.last c.args.items.items r []) gives (Tries-none _ _),
      AddsCalls-none _,
    )
