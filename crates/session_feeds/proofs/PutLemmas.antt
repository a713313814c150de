-- One put more of an item, and one item more.
use Rattle.std.proofs.Common.{◌≡◌, ℕ, Bool, true, false, List, [], ◌∷◌, ◌++◌, map, refl, sym, ap, ◌∙◌, subst, append_assoc}
use Rattle.std.specs.Prelude.{◌&&◌, ◌==◌, length}
use Rattle.std.specs.List.{fold}
use Rattle.std.proofs.lemmas.List.{map-append}
use Rattle.chan_values.specs.declared.item.Item.{Item}
use Rattle.channel_core.specs.declared.answer.Put.{Put}
use Rattle.channel_core.specs.declared.call.EndAnswer.{EndAnswer}
use Rattle.channel_core.specs.declared.call.EndCall.{EndCall}
use Rattle.turn_lock.specs.declared.seat.Seat.{Seat}
use Rattle.turn_lock.specs.declared.value.Turn.{Ghosts}
use Rattle.turn_lock.specs.Runs.{AllFit}
use Rattle.turn_lock.proofs.RunLemmas.{goes_on}
use Rattle.session_run.specs.Adds.{AddsCalls}
use Rattle.session_run.proofs.AddsLemmas.{AddsCalls-then}
use Rattle.session_feeds.specs.Puts.{IsLast, MayTry, PutsPrefix, ToPut, Trial, full_call, is_stop, put_call, stopped_by, to_put, trial_calls, tried}

module _ {V T : Type 0} {g : Ghosts V EndCall EndAnswer T} where
  -- the window was full once more
  pub AddsCalls-full : (a b c : Seat V EndCall EndAnswer T g) (last : Bool)
      (item asked back : Item) (full : List (List ℕ × ℕ)) (id : List ℕ) (now : ℕ)
      → asked ≡ item
      → back ≡ asked
      → AddsCalls a (map (full_call last item) full) b
      → AddsCalls b ((put_call last asked id now, EndAnswer.Put (Put.Full back)) ∷ []) c
      → AddsCalls a (map (full_call last item) (full ++ (id, now) ∷ [])) c
  AddsCalls-full a b c last item asked back full id now is is_back so more =
      subst (λ l. AddsCalls a l c) (sym (map-append (full_call last item) full ((id, now) ∷ [])))
      (AddsCalls-then a b c (map (full_call last item) full)
      (full_call last item (id, now) ∷ []) so
      (subst
      (λ i. AddsCalls b ((put_call last i id now, EndAnswer.Put (Put.Full i)) ∷ []) c) is
      (subst
      (λ i. AddsCalls b ((put_call last asked id now, EndAnswer.Put (Put.Full i)) ∷ []) c)
      is_back more)))

  -- the last put of a trial
  pub AddsCalls-trial : (a b c : Seat V EndCall EndAnswer T g) (last : Bool) (item asked : Item)
      (full : List (List ℕ × ℕ)) (id : List ℕ) (now : ℕ) (put : Put)
      → asked ≡ item
      → AddsCalls a (map (full_call last item) full) b
      → AddsCalls b ((put_call last asked id now, EndAnswer.Put put) ∷ []) c
      → AddsCalls a (trial_calls (record {
        item = item;
        as_last = last;
        full = full;
        id = id;
        now = now;
        answer = put;
      })) c
  AddsCalls-trial a b c last item asked full id now put is so more =
      AddsCalls-then a b c (map (full_call last item) full)
      ((put_call last item id now, EndAnswer.Put put) ∷ []) so
      (subst (λ i. AddsCalls b ((put_call last i id now, EndAnswer.Put put) ∷ []) c) is more)

-- trials of all items but the rest, of which none was stopped
pub record Tries (last : Bool) (all rest : List Item) (trials : List Trial) : Type 0 where
  pub items_are : to_put last all ≡ map tried trials ++ to_put last rest
  pub may : AllFit stopped_by MayTry false trials
  pub on : false ≡ fold stopped_by false trials

pub Tries-none : (last : Bool) (all : List Item) → Tries last all all []
Tries-none last all = record { items_are = refl; may = tt; on = refl }

module _ (last : Bool) (all rest next : List Item) (trials : List Trial) (item : Item) (t : Trial)
    (so : Tries last all rest trials) (is : rest ≡ item ∷ next) (is_item : t.item ≡ item)
    (as_last : t.as_last ≡ (last && (length next == 0))) (ends : IsLast t.item t.answer) where
  run : (b : Bool) → is_stop t.answer ≡ b
      → AllFit stopped_by MayTry false (trials ++ t ∷ [])
      × (b ≡ fold stopped_by false (trials ++ t ∷ []))
  run b stop = goes_on stopped_by MayTry false false b trials t so.may so.on (refl, ends) (sym stop)

  is_tried : (item, last && (length next == 0)) ≡ tried t
  is_tried = λ i. (sym is_item i, sym as_last i)

  items_now : to_put last all ≡ map tried (trials ++ t ∷ []) ++ to_put last next
  items_now =
      so.items_are
      ∙ ap (λ r. map tried trials ++ to_put last r) is
      ∙ ap (λ (p : ToPut). map tried trials ++ p ∷ to_put last next) is_tried
      ∙ sym (append_assoc (map tried trials) (tried t ∷ []) (to_put last next))
      ∙ ap (λ l. l ++ to_put last next) (sym (map-append tried trials (t ∷ [])))

  pub Tries-more : is_stop t.answer ≡ false → Tries last all next (trials ++ t ∷ [])
  Tries-more on =
      let r = run false on in record { items_are = items_now; may = r.0; on = r.1 }

  pub Tries-stopped : is_stop t.answer ≡ true
      → PutsPrefix (to_put last all) (trials ++ t ∷ []) true
  Tries-stopped stop = let r = run true stop in record {
    left = to_put last next;
    items = items_now;
    may = r.0;
    stops = r.1;
    all = λ never. absurd (cc);
  }

-- all were put
pub Tries-all : (last : Bool) (all rest : List Item) (trials : List Trial)
    → Tries last all rest trials
    → rest ≡ []
    → PutsPrefix (to_put last all) trials false
Tries-all last all rest trials so is = record {
  left = [];
  items = so.items_are ∙ ap (λ r. map tried trials ++ to_put last r) is;
  may = so.may;
  stops = so.on;
  all = λ is. refl;
}
