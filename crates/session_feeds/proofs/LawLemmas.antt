-- What the trials of a worker put in.
use Rattle.std.proofs.Common.{◌≡◌, ℕ, Bool, true, false, None, List, [], ◌∷◌, ◌++◌, map, refl, sym, ap, ◌∙◌, subst, append_assoc}
use Rattle.std.specs.List.{flat_map, fold}
use Rattle.std.proofs.lemmas.List.{append-nil}
use Rattle.std.proofs.lemmas.List.Elements.{filter_map-append}
use Rattle.chan_values.specs.declared.item.Item.{Item}
use Rattle.channel_core.specs.declared.answer.Put.{Put}
use Rattle.channel_core.specs.declared.call.EndAnswer.{EndAnswer}
use Rattle.channel_core.specs.declared.call.EndCall.{EndCall}
use Rattle.turn_lock.specs.Runs.{AllFit}
use Rattle.session_feeds.specs.PutLaws.{PutsAreGiven}
use Rattle.session_feeds.specs.Puts.{MayTry, ToPut, Trial, full_call, is_stop, item_put, items_put, put_call, stopped_by, trial_calls, tried}

-- what these calls put in, and then others
pub items_put-append : (xs ys : List (EndCall × EndAnswer))
    → items_put (xs ++ ys) ≡ items_put xs ++ items_put ys
items_put-append xs ys =
    filter_map-append (λ (e : EndCall × EndAnswer). item_put e.1 e.0) xs ys

-- a put that finds the window full puts nothing in
none_full : (last : Bool) (item : Item) (id : List ℕ) (now : ℕ)
    → item_put (EndAnswer.Put (Put.Full item)) (put_call last item id now) ≡ None
none_full true item id now = refl
none_full false item id now = refl

items_put-full : (last : Bool) (item : Item) (full : List (List ℕ × ℕ))
    → items_put (map (full_call last item) full) ≡ []
items_put-full last item [] = refl
items_put-full true item (p ∷ ps) = items_put-full true item ps
items_put-full false item (p ∷ ps) = items_put-full false item ps

-- what the last put of a trial put in
abbrev pub put_by : ToPut → Put → List ToPut
put_by x (Put.Seq n) = x ∷ []
put_by x put = []

items_put-last : (last : Bool) (item : Item) (id : List ℕ) (now : ℕ) (put : Put)
    → items_put ((put_call last item id now, EndAnswer.Put put) ∷ []) ≡ put_by (item, last) put
items_put-last true item id now (Put.Seq n) = refl
items_put-last true item id now (Put.Closed back) = refl
items_put-last true item id now (Put.Past back) = refl
items_put-last true item id now (Put.Spent back) = refl
items_put-last true item id now (Put.Full back) = refl
items_put-last false item id now (Put.Seq n) = refl
items_put-last false item id now (Put.Closed back) = refl
items_put-last false item id now (Put.Past back) = refl
items_put-last false item id now (Put.Spent back) = refl
items_put-last false item id now (Put.Full back) = refl

-- what a trial put in
pub items_put-trial : (t : Trial) → items_put (trial_calls t) ≡ put_by (tried t) t.answer
items_put-trial t =
    items_put-append (map (full_call t.as_last t.item) t.full)
    ((put_call t.as_last t.item t.id t.now, EndAnswer.Put t.answer) ∷ [])
    ∙ ap
    (λ l. l ++ items_put ((put_call t.as_last t.item t.id t.now, EndAnswer.Put t.answer) ∷ []))
    (items_put-full t.as_last t.item t.full)
    ∙ items_put-last t.as_last t.item t.id t.now t.answer

-- one that is not stopped puts its item in
pub put_by-on : (x : ToPut) (put : Put) → is_stop put ≡ false → put_by x put ≡ x ∷ []
put_by-on x (Put.Seq n) on = refl
put_by-on x (Put.Closed back) on = absurd (cc)
put_by-on x (Put.Past back) on = absurd (cc)
put_by-on x (Put.Spent back) on = absurd (cc)
put_by-on x (Put.Full back) on = absurd (cc)

pub put_by-stop : (x : ToPut) (put : Put) → is_stop put ≡ true → put_by x put ≡ []
put_by-stop x (Put.Seq n) stop = absurd (cc)
put_by-stop x (Put.Closed back) stop = refl
put_by-stop x (Put.Past back) stop = refl
put_by-stop x (Put.Spent back) stop = refl
put_by-stop x (Put.Full back) stop = refl

-- what was tried is what was put in, and then what was stopped
abbrev pub Tried : List Trial → Bool → Type 0
Tried trials stopped =
    (rest : List ToPut)
    × (map tried trials ≡ items_put (flat_map trial_calls trials) ++ rest)
    × (stopped ≡ false → rest ≡ [])

-- no trial follows one that was stopped
none_after : (us : List Trial) → AllFit stopped_by MayTry true us → us ≡ []
none_after [] all = refl
none_after (u ∷ us) all = absurd (cc)

-- one trial more, before others
tried_more : (t : Trial) (ts : List Trial)
    → AllFit stopped_by MayTry (is_stop t.answer) ts
    → Tried ts (fold stopped_by (is_stop t.answer) ts)
    → Tried (t ∷ ts) (fold stopped_by (is_stop t.answer) ts)
tried_more t ts may rest_of = by_answer (is_stop t.answer) refl
  where
    head : items_put (flat_map trial_calls (t ∷ ts))
        ≡ put_by (tried t) t.answer ++ items_put (flat_map trial_calls ts)
    head =
        items_put-append (trial_calls t) (flat_map trial_calls ts)
        ∙ ap (λ l. l ++ items_put (flat_map trial_calls ts)) (items_put-trial t)

    by_answer : (b : Bool) → is_stop t.answer ≡ b
        → Tried (t ∷ ts) (fold stopped_by (is_stop t.answer) ts)
    by_answer false is = (
      rest_of.0,
      ap (λ l. tried t ∷ l) rest_of.1
          ∙ ap (λ l. l ++ (items_put (flat_map trial_calls ts) ++ rest_of.0))
          (sym (put_by-on (tried t) t.answer is))
          ∙ sym
          (append_assoc (put_by (tried t) t.answer) (items_put (flat_map trial_calls ts)) rest_of.0)
          ∙ ap (λ l. l ++ rest_of.0) (sym head),
      rest_of.2,
    )
    by_answer true is =
        let none = none_after ts (subst (λ b. AllFit stopped_by MayTry b ts) is may) in (
          tried t ∷ [],
          ap (λ (us : List Trial). tried t ∷ map tried us) none
              ∙ ap (λ l. l ++ tried t ∷ []) (sym (put_by-stop (tried t) t.answer is))
              ∙ ap (λ l. l ++ tried t ∷ [])
              (sym (append-nil (put_by (tried t) t.answer)))
              ∙ ap (λ (us : List Trial).
              (put_by (tried t) t.answer ++ items_put (flat_map trial_calls us)) ++ tried t ∷ [])
              (sym none)
              ∙ ap (λ l. l ++ tried t ∷ []) (sym head),
          (λ on. absurd (let e : true ≡ false =
              sym is
              ∙ ap (λ (us : List Trial). fold stopped_by (is_stop t.answer) us) (sym none)
              ∙ on in cc)),
        )

tries_put : (trials : List Trial) (before : Bool)
    → AllFit stopped_by MayTry before trials
    → Tried trials (fold stopped_by before trials)
tries_put [] before may = ([], refl, λ on. refl)
tries_put (t ∷ ts) before may =
    tried_more t ts may.1 (tries_put ts (is_stop t.answer) may.1)

pub puts_are_given : PutsAreGiven
puts_are_given given trials stopped so =
    let t = tries_put trials false so.may in (
      t.0 ++ so.left,
      so.items
          ∙ ap (λ l. l ++ so.left) t.1
          ∙ append_assoc (items_put (flat_map trial_calls trials)) t.0 so.left,
      (λ on. ap (λ l. l ++ so.left) (t.2 (sym so.stops ∙ on)) ∙ so.all on),
    )
