-- What the input of a child took, by one call more.
use Rattle.std.proofs.Common.{◌≡◌, ℕ, Bool, true, false, Option, Some, None, IfSome, inl, inr, List, [], ◌∷◌, ◌++◌, take, drop, sym, refl, ap, ◌∙◌, subst, append_assoc, append-nil, take-append-drop, true≢false}
use Rattle.chan_io.specs.Faults.{Rises}
use Rattle.chan_io.specs.Sinks.{Finishes as FinishesOutput, Output, Writes, WritesPart}
use Rattle.session_run.specs.declared.parcel.Parcel.{Parcel}
use Rattle.shell_session.specs.Children.{ChildState, Feeds, Finishes, IsPrefixOf, SameInput, TookAll, TookFront, TookInput, has_end, input_bytes}
use Rattle.shell_session.specs.Items.{joined}
use Rattle.shell_session.specs.Parcels.{arrived, is_end}
use Rattle.shell_session.proofs.ParcelLemmas.{has_end-end, has_end-same, input_bytes-after, input_bytes-end, input_bytes-more}

-- ---- outputs that tell

all_written : (bytes more : List ℕ) (before after : Option Output)
    → IfSome before (λ o. o ≡ record { taken = bytes; finished = false })
    → Writes more before after
    → IfSome after (λ o. o ≡ record { taken = bytes ++ more; finished = false })
all_written bytes more None after told w =
    subst (λ a. IfSome a (λ (o : Output). o ≡ record { taken = bytes ++ more; finished = false }))
    (sym w) tt
all_written bytes more (Some before) after told w =
    subst (λ a. IfSome a (λ (o : Output). o ≡ record { taken = bytes ++ more; finished = false }))
    (sym w)
    (ap (λ (o : Output). let p : Output = record o { taken = o.taken ++ more } in p) told)

front_written : (bytes more : List ℕ) (before after : Option Output)
    → IfSome before (λ o. o ≡ record { taken = bytes; finished = false })
    → WritesPart more before after
    → IfSome after (λ o. (o.finished ≡ false) × IsPrefixOf o.taken (bytes ++ more))
front_written bytes more None after told w =
    subst (λ a. IfSome a
    (λ (o : Output). (o.finished ≡ false) × IsPrefixOf o.taken (bytes ++ more))) (sym w) tt
front_written bytes more (Some before) after told w =
    subst (λ a. IfSome a
    (λ (o : Output). (o.finished ≡ false) × IsPrefixOf o.taken (bytes ++ more))) (sym w.1) (
      ap (λ (o : Output). o.finished) told,
      (
        drop w.0 more,
        append_assoc before.taken (take w.0 more) (drop w.0 more)
            ∙ ap (λ l. before.taken ++ l) (take-append-drop w.0 more)
            ∙ ap (λ (o : Output). o.taken ++ more) told,
      ),
    )

finished_then : (bytes : List ℕ) (before after : Option Output)
    → IfSome before (λ o. o ≡ record { taken = bytes; finished = false })
    → FinishesOutput before after
    → IfSome after (λ o. o ≡ record { taken = bytes; finished = true })
finished_then bytes None after told f =
    subst (λ a. IfSome a (λ (o : Output). o ≡ record { taken = bytes; finished = true })) (sym f) tt
finished_then bytes (Some before) after told f =
    subst (λ a. IfSome a (λ (o : Output). o ≡ record { taken = bytes; finished = true })) (sym f)
    (ap (λ (o : Output). let p : Output = record o { finished = true } in p) told)

none_written : (bytes : List ℕ) (before after : Option Output)
    → IfSome before (λ o. o ≡ record { taken = bytes; finished = false })
    → after ≡ before
    → IfSome after (λ o. (o.finished ≡ false) × IsPrefixOf o.taken bytes)
none_written bytes None after told same =
    subst (λ a. IfSome a (λ (o : Output). (o.finished ≡ false) × IsPrefixOf o.taken bytes))
    (sym same) tt
none_written bytes (Some before) after told same =
    subst (λ a. IfSome a (λ (o : Output). (o.finished ≡ false) × IsPrefixOf o.taken bytes))
    (sym same) (
      ap (λ (o : Output). o.finished) told,
      ([], append-nil before.taken ∙ ap (λ (o : Output). o.taken) told),
    )

prefix_more : (xs bytes more : List ℕ) → IsPrefixOf xs bytes → IsPrefixOf xs (bytes ++ more)
prefix_more xs bytes more p = (
  p.0 ++ more,
  sym (append_assoc xs p.0 more) ∙ ap (λ l. l ++ more) p.1,
)

front_more : (bytes more : List ℕ) (output : Option Output)
    → IfSome output (λ o. (o.finished ≡ false) × IsPrefixOf o.taken bytes)
    → IfSome output (λ o. (o.finished ≡ false) × IsPrefixOf o.taken (bytes ++ more))
front_more bytes more None told = tt
front_more bytes more (Some o) told = (told.0, prefix_more o.taken bytes more told.1)

-- ---- the states

all_same : (bytes : List ℕ) (ended : Bool) (old new : ChildState)
    → SameInput old new
    → TookAll bytes ended old
    → TookAll bytes ended new
all_same bytes ended old new same took = record {
  faults = same.1 ∙ took.faults;
  over = same.2 ∙ took.over;
  told =
      subst (λ a. IfSome a (λ (o : Output). o ≡ record { taken = bytes; finished = ended }))
      (sym same.0) took.told;
}

front_same : (bytes : List ℕ) (old new : ChildState)
    → SameInput old new
    → TookFront bytes old
    → TookFront bytes new
front_same bytes old new same took = record {
  faults = subst (λ n. Rises 0 n) (sym same.1) took.faults;
  over = same.2 ∙ took.over;
  told =
      subst (λ a. IfSome a (λ (o : Output). (o.finished ≡ false) × IsPrefixOf o.taken bytes))
      (sym same.0) took.told;
}

-- by other bytes and another end that are the same
all_at : (bytes bytes' : List ℕ) (ended ended' : Bool) (c : ChildState)
    → bytes' ≡ bytes
    → ended' ≡ ended
    → TookAll bytes ended c
    → TookAll bytes' ended' c
all_at bytes bytes' ended ended' c b e took =
    subst (λ l. TookAll l ended' c) (sym b) (subst (λ d. TookAll bytes d c) (sym e) took)

front_at : (bytes bytes' : List ℕ) (c : ChildState)
    → bytes' ≡ bytes
    → TookFront bytes c
    → TookFront bytes' c
front_at bytes bytes' c b took = subst (λ l. TookFront l c) (sym b) took

rises_from : (b m n : ℕ) → b ≡ 0 → Rises b n → Rises 0 n
rises_from b m n none rises = subst (λ k. Rises k n) none rises

-- a finish
pub took-finish : (p : Parcel) (ps : List Parcel) (old new : ChildState)
    → is_end p ≡ true
    → Finishes old new
    → TookInput ps old
    → TookInput (ps ++ p ∷ []) new
took-finish p ps old new e (inl same) (inl took) =
    inl (all_at _ _ _ _ new (input_bytes-end p ps e)
    (has_end-end p ps e ∙ sym (sym took.over ∙ same.0)) (all_same _ _ old new same.1 took))
took-finish p ps old new e (inr (inl f)) (inl took) =
    let is_open : has_end ps ≡ false = sym took.over ∙ f.0 in
    inl (record {
      faults = f.2 ∙ took.faults;
      over = f.1 ∙ sym (has_end-end p ps e);
      told =
          subst (λ b. IfSome new.stdin
          (λ (o : Output). o ≡ record { taken = input_bytes (ps ++ p ∷ []); finished = b }))
          (sym (has_end-end p ps e))
          (subst (λ l. IfSome new.stdin (λ (o : Output). o ≡ record { taken = l; finished = true }))
          (sym (input_bytes-end p ps e))
          (finished_then (input_bytes ps) old.stdin new.stdin
          (subst (λ b. IfSome old.stdin
          (λ (o : Output). o ≡ record { taken = input_bytes ps; finished = b })) is_open took.told)
          f.3));
    })
took-finish p ps old new e (inr (inr f)) (inl took) =
    let is_open : has_end ps ≡ false = sym took.over ∙ f.0 in
    inr (front_at _ _ new (input_bytes-end p ps e) (record {
      faults = rises_from old.stdin_faults 0 new.stdin_faults took.faults f.2;
      over = f.1;
      told =
          none_written (input_bytes ps) old.stdin new.stdin
          (subst (λ b. IfSome old.stdin
          (λ (o : Output). o ≡ record { taken = input_bytes ps; finished = b })) is_open took.told)
          f.3;
    }))
took-finish p ps old new e (inl same) (inr took) =
    inr (front_at _ _ new (input_bytes-end p ps e) (front_same _ old new same.1 took))
took-finish p ps old new e (inr (inl f)) (inr took) = absurd (true≢false (sym took.over ∙ f.0))
took-finish p ps old new e (inr (inr f)) (inr took) = absurd (true≢false (sym took.over ∙ f.0))

-- a parcel that is no end, where the input stays what it was behind an end or a failure
front_kept : (p : Parcel) (ps : List Parcel) (c : ChildState)
    → is_end p ≡ false
    → (b : Bool)
    → has_end ps ≡ b
    → TookFront (input_bytes ps) c
    → TookFront (input_bytes (ps ++ p ∷ [])) c
front_kept p ps c goes true ended took = front_at _ _ c (input_bytes-after p ps ended) took
front_kept p ps c goes false ended took =
    front_at _ _ c (input_bytes-more p ps ended goes) (record {
      faults = took.faults;
      over = took.over;
      told = front_more (input_bytes ps) (joined 1 (arrived (p ∷ []))) c.stdin took.told;
    })

-- bytes of a parcel that is no end
pub took-write : (p : Parcel) (ps : List Parcel) (bytes : List ℕ) (old new : ChildState)
    → is_end p ≡ false
    → joined 1 (arrived (p ∷ [])) ≡ bytes
    → Feeds bytes old new
    → TookInput ps old
    → TookInput (ps ++ p ∷ []) new
took-write p ps bytes old new goes is (inl same) (inl took) =
    let ended : has_end ps ≡ true = sym took.over ∙ same.0 in
    inl (all_at _ _ _ _ new (input_bytes-after p ps ended) (has_end-same p ps goes)
    (all_same _ _ old new same.1 took))
took-write p ps bytes old new goes is (inr (inl f)) (inl took) =
    let is_open : has_end ps ≡ false = sym took.over ∙ f.0 in
    inl (all_at (input_bytes ps ++ bytes) _ false _ new
    (input_bytes-more p ps is_open goes ∙ ap (λ l. input_bytes ps ++ l) is)
    (has_end-same p ps goes ∙ is_open)
    (record {
      faults = f.2 ∙ took.faults;
      over = f.1;
      told =
          all_written (input_bytes ps) bytes old.stdin new.stdin
          (subst (λ b. IfSome old.stdin
          (λ (o : Output). o ≡ record { taken = input_bytes ps; finished = b })) is_open took.told)
          f.3;
    }))
took-write p ps bytes old new goes is (inr (inr f)) (inl took) =
    let is_open : has_end ps ≡ false = sym took.over ∙ f.0 in
    inr (front_at (input_bytes ps ++ bytes) _ new
    (input_bytes-more p ps is_open goes ∙ ap (λ l. input_bytes ps ++ l) is)
    (record {
      faults = rises_from old.stdin_faults 0 new.stdin_faults took.faults f.2;
      over = f.1;
      told =
          front_written (input_bytes ps) bytes old.stdin new.stdin
          (subst (λ b. IfSome old.stdin
          (λ (o : Output). o ≡ record { taken = input_bytes ps; finished = b })) is_open took.told)
          f.3;
    }))
took-write p ps bytes old new goes is (inl same) (inr took) =
    inr (front_kept p ps new goes (has_end ps) refl (front_same _ old new same.1 took))
took-write p ps bytes old new goes is (inr (inl f)) (inr took) =
    absurd (true≢false (sym took.over ∙ f.0))
took-write p ps bytes old new goes is (inr (inr f)) (inr took) =
    absurd (true≢false (sym took.over ∙ f.0))

same_bytes : (p : Parcel) (ps : List Parcel)
    → is_end p ≡ false
    → joined 1 (arrived (p ∷ [])) ≡ []
    → (b : Bool)
    → has_end ps ≡ b
    → input_bytes (ps ++ p ∷ []) ≡ input_bytes ps
same_bytes p ps goes none true ended = input_bytes-after p ps ended
same_bytes p ps goes none false ended =
    input_bytes-more p ps ended goes ∙ ap (λ l. input_bytes ps ++ l) none
    ∙ append-nil (input_bytes ps)

-- a parcel that is no end and has no bytes
pub took-pass : (p : Parcel) (ps : List Parcel) (c : ChildState)
    → is_end p ≡ false
    → joined 1 (arrived (p ∷ [])) ≡ []
    → TookInput ps c
    → TookInput (ps ++ p ∷ []) c
took-pass p ps c goes none (inr took) = inr (front_kept p ps c goes (has_end ps) refl took)
took-pass p ps c goes none (inl took) =
    inl (all_at _ _ _ _ c (same_bytes p ps goes none (has_end ps) refl)
    (has_end-same p ps goes) took)

-- a child that differs elsewhere
pub took-same : (ps : List Parcel) (old new : ChildState)
    → SameInput old new
    → TookInput ps old
    → TookInput ps new
took-same ps old new same (inl took) = inl (all_same _ _ old new same took)
took-same ps old new same (inr took) = inr (front_same _ old new same took)
