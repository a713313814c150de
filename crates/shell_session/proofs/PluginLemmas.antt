-- What arrives at the plugin's end of a shell session, by one item more.
use Rattle.std.proofs.Common.{◌≡◌, ◌≢◌, ◌≤◌, ℕ, ℤ, ◌+◌, true, false, Option, Some, None, suc, ◌⊎◌, inl, inr, ⊎_elim, List, [], ◌∷◌, ◌++◌, All, take, length, sym, refl, ap, ◌∙◌, subst, arith, append_assoc, append-nil, true≢false}
use Rattle.std.proofs.lemmas.Bool.{false≢true}
use Rattle.std.proofs.lemmas.Option.{none-some}
use Rattle.std.proofs.lemmas.List.Elements.{All-nil, All-push}
use Rattle.chan_io.specs.Faults.{Rises}
use Rattle.chan_io.specs.Sinks.{Output, Writes, WritesPart}
use Rattle.chan_values.specs.declared.item.Item.{Item}
use Rattle.session_feeds.specs.Sessions.{Account}
use Rattle.session_feeds.specs.declared.session.SessionFault.{SessionFault}
use Rattle.session_run.specs.declared.parcel.Parcel.{Parcel}
use Rattle.shell_session.specs.Items.{IsExit, IsNoExit, LastExit, joined, of_type, terminate}
use Rattle.shell_session.specs.Parcels.{arrived}
use Rattle.shell_session.specs.PluginSteps.{Shows}
use Rattle.shell_session.specs.Plugins.{GaveFlag, GaveNoFlag, IsOfInput, PluginStandsFor, ShellPluginState, Wrote}
use Rattle.shell_session.specs.Streams.{StreamsTold}
use Rattle.shell_session.proofs.AgentLemmas.{rises_on}
use Rattle.shell_session.proofs.ParcelLemmas.{arrived-append, bytes_of_item, bytes_of_other, joined-append, overs-more}

-- ---- writes, one behind another

writes-none : (first : Option Output) → Writes [] first first
writes-none None = refl
writes-none (Some o) =
    ap (λ l. Some (let p : Output = record o { taken = l } in p)) (sym (append-nil o.taken))

pub writes-more : (xs ys : List ℕ) (a b c : Option Output)
    → Writes xs a b
    → Writes ys b c
    → Writes (xs ++ ys) a c
writes-more xs ys None b c w v = subst (λ o. Writes ys o c) w v
writes-more xs ys (Some x) b c w v =
    subst (λ o. Writes ys o c) w v
    ∙ ap (λ l. Some (let p : Output = record x { taken = l } in p)) (append_assoc x.taken xs ys)

take-over : (n : ℕ) (xs ys : List ℕ) → take (length xs + n) (xs ++ ys) ≡ xs ++ take n ys
take-over n [] ys = ap (λ k. take k ys) (let e : length {A = ℕ} [] + n ≡ n = omega arith in e)
take-over n (x ∷ xs) ys =
    ap (λ k. take k (x ∷ (xs ++ ys)))
    (let e : length (x ∷ xs) + n ≡ suc (length xs + n) = omega arith in e)
    ∙ ap (λ l. x ∷ l) (take-over n xs ys)

pub writes-part : (xs ys : List ℕ) (a b c : Option Output)
    → Writes xs a b
    → WritesPart ys b c
    → WritesPart (xs ++ ys) a c
writes-part xs ys None b c w v = subst (λ o. WritesPart ys o c) w v
writes-part xs ys (Some x) b c w v =
    let v' = subst (λ o. WritesPart ys o c) w v in (
      length xs + v'.0,
      v'.1
          ∙ ap (λ l. Some (let p : Output = record x { taken = l } in p))
          (append_assoc x.taken xs (take v'.0 ys)
          ∙ ap (λ l. x.taken ++ l) (sym (take-over v'.0 xs ys))),
    )

-- ---- statuses

pub exit-more : (xs : List Item) (item : Item) (exit : Option ℤ)
    → IsNoExit item
    → LastExit xs exit
    → LastExit (xs ++ item ∷ []) exit
exit-more xs item None other last = All-push IsNoExit xs item last other
exit-more xs item (Some status) other last = (
  last.0,
  last.1,
  last.2 ++ item ∷ [],
  ap (λ l. l ++ item ∷ []) last.3 ∙ append_assoc last.0 (last.1 ∷ last.2) (item ∷ []),
  last.4,
  All-push IsNoExit last.2 item last.5 other,
)

pub exit-now : (xs : List Item) (item : Item) (status : ℤ)
    → IsExit status item
    → LastExit (xs ++ item ∷ []) (Some status)
exit-now xs item status is = (xs, item, [], refl, is, All-nil IsNoExit)

no_exit : (item : Item) → item.ptype ≢ 12 → IsNoExit item
no_exit item ne = λ status fits is. ne (ap (λ (i : Item). i.ptype) is)

-- ---- what arrived

-- the bytes of one item more
more_of : (t : ℕ) (ps : List Parcel) (item : Item)
    → joined t (arrived (ps ++ Parcel.Arrived item ∷ [])) ≡ joined t (arrived ps) ++ joined t
    (item ∷ [])
more_of t ps item =
    ap (λ l. joined t l) (arrived-append ps (Parcel.Arrived item ∷ []))
    ∙ joined-append t (arrived ps) (item ∷ [])

-- what was written, by an item of the type, or of another
writes_item : (t : ℕ) (ps : List Parcel) (item : Item) (a b c : Option Output)
    → item.ptype ≡ t
    → Writes (joined t (arrived ps)) a b
    → Writes item.payload b c
    → Writes (joined t (arrived (ps ++ Parcel.Arrived item ∷ []))) a c
writes_item t ps item a b c is w v =
    subst (λ l. Writes l a c)
    (sym (more_of t ps item ∙ ap (λ l. joined t (arrived ps) ++ l) (bytes_of_item t item is)))
    (writes-more _ item.payload a b c w v)

part_of_item : (t : ℕ) (ps : List Parcel) (item : Item) (a b c : Option Output)
    → item.ptype ≡ t
    → Writes (joined t (arrived ps)) a b
    → WritesPart item.payload b c
    → WritesPart (joined t (arrived (ps ++ Parcel.Arrived item ∷ []))) a c
part_of_item t ps item a b c is w v =
    subst (λ l. WritesPart l a c)
    (sym (more_of t ps item ∙ ap (λ l. joined t (arrived ps) ++ l) (bytes_of_item t item is)))
    (writes-part _ item.payload a b c w v)

writes_other : (t : ℕ) (ps : List Parcel) (item : Item) (a b : Option Output)
    → item.ptype ≢ t
    → Writes (joined t (arrived ps)) a b
    → Writes (joined t (arrived (ps ++ Parcel.Arrived item ∷ []))) a b
writes_other t ps item a b ne w =
    subst (λ l. Writes l a b)
    (sym (more_of t ps item ∙ ap (λ l. joined t (arrived ps) ++ l) (bytes_of_other t item ne)
    ∙ append-nil (joined t (arrived ps)))) w

-- ---- one item

module _ (item : Item) (s : ShellPluginState) (a : Account StreamsTold)
    (begun : s.begun ≡ true) (on : s.refused ≡ None) (stands : PluginStandsFor s a) where
  -- the account with it
  abbrev pub hearing : Account StreamsTold
  hearing = record a { taken = a.taken ++ Parcel.Arrived item ∷ []; given = a.given ++ [] }

  flag_kept : (s' : ShellPluginState)
      → s'.flagged ≡ s.flagged
      → GaveNoFlag s' hearing ⊎ GaveFlag s' hearing
  flag_kept s' same =
      ⊎_elim
      (λ (no : GaveNoFlag s a). inl (
        same ∙ no.0,
        ap (λ l. of_type 10 l) (append-nil a.given) ∙ no.1,
        λ _. overs-more a.taken (Parcel.Arrived item ∷ []) ∙ (let e = no.2 on in omega arith),
      ))
      (λ (gave : GaveFlag s a). inr (
        same ∙ gave.0,
        ap (λ l. of_type 10 l) (append-nil a.given) ∙ gave.1,
        let e = overs-more a.taken (Parcel.Arrived item ∷ []) in let f = gave.2 in omega arith,
      )) stands.flag

  -- all of it was shown
  heard : (output errors : Option Output) (exit : Option ℤ)
      → Writes (joined 1 (arrived (a.taken ++ Parcel.Arrived item ∷ []))) a.contents.output output
      → Writes (joined 11 (arrived (a.taken ++ Parcel.Arrived item ∷ []))) a.contents.errors errors
      → LastExit (arrived a.taken ++ item ∷ []) exit
      → PluginStandsFor
      (record s { output = output; errors = errors; exit = exit; refused = None }) hearing
  heard output errors exit out err last = record {
    fresh = λ no. absurd (true≢false (sym begun ∙ no));
    first = stands.first;
    output = inl out;
    errors = inl err;
    exit =
        subst (λ l. LastExit l exit) (sym (arrived-append a.taken (Parcel.Arrived item ∷ []))) last;
    session =
        subst (λ l. All (λ i. (i.ptype ≡ 1) ⊎ (i ≡ terminate)) l)
        (sym (append-nil a.given)) stands.session;
    input = subst (λ l. IsOfInput s.first s.input l) (sym (append-nil a.given)) stands.input;
    flag =
        flag_kept (record s { output = output; errors = errors; exit = exit; refused = None }) refl;
    back = stands.back;
    feeds = λ b r none. stands.feeds begun on none;
    fault = tt;
    whole = λ _. (out, err);
    counted = stands.counted;
  }

  -- the write failed
  stopped : (output errors : Option Output) (output_faults errors_faults : ℕ)
      → Wrote (joined 1 (arrived (a.taken ++ Parcel.Arrived item ∷ []))) a.contents.output
      a.contents.output_faults output output_faults
      → Wrote (joined 11 (arrived (a.taken ++ Parcel.Arrived item ∷ []))) a.contents.errors
      a.contents.errors_faults errors errors_faults
      → item.ptype ≢ 12
      → Rises a.contents.output_faults output_faults ⊎ Rises a.contents.errors_faults errors_faults
      → (a.contents.output_faults ≤ output_faults) × (a.contents.errors_faults ≤ errors_faults)
      → PluginStandsFor (record s {
        output = output;
        output_faults = output_faults;
        errors = errors;
        errors_faults = errors_faults;
        refused = Some SessionFault.Write;
      }) hearing
  stopped output errors output_faults errors_faults out err ne cause more = record {
    fresh = λ no. absurd (true≢false (sym begun ∙ no));
    first = stands.first;
    output = out;
    errors = err;
    exit =
        subst (λ l. LastExit l s.exit) (sym (arrived-append a.taken (Parcel.Arrived item ∷ [])))
        (exit-more (arrived a.taken) item s.exit (no_exit item ne) stands.exit);
    session =
        subst (λ l. All (λ i. (i.ptype ≡ 1) ⊎ (i ≡ terminate)) l)
        (sym (append-nil a.given)) stands.session;
    input = subst (λ l. IsOfInput s.first s.input l) (sym (append-nil a.given)) stands.input;
    flag =
        ⊎_elim
        (λ (no : GaveNoFlag s a). inl (
          no.0,
          ap (λ l. of_type 10 l) (append-nil a.given)
              ∙ no.1,
          λ r. absurd (none-some SessionFault.Write (sym r)),
        ))
        (λ (gave : GaveFlag s a). inr (
          gave.0,
          ap (λ l. of_type 10 l) (append-nil a.given)
              ∙ gave.1,
          (let e = overs-more a.taken (Parcel.Arrived item ∷ []) in let f = gave.2 in omega arith),
        ))
        stands.flag;
    back = stands.back;
    feeds = λ b r none. absurd (none-some SessionFault.Write (sym r));
    fault = cause;
    whole = λ r. absurd (none-some SessionFault.Write (sym r));
    counted = more;
  }

  ne_of : (n m : ℕ) → item.ptype ≡ n → n ≢ m → item.ptype ≢ m
  ne_of n m is ne = λ e. ne (sym is ∙ e)

  pub shown_stands : (new : ShellPluginState)
      → Shows item s true new
      → PluginStandsFor (record new { refused = None }) hearing
  shown_stands new (inl h) =
      subst (λ (n : ShellPluginState). PluginStandsFor (record n { refused = None }) hearing)
      (sym h.1.0)
      (heard new.output s.errors s.exit
      (writes_item 1 a.taken item _ _ _ h.0 (stands.whole on).0 h.1.1)
      (writes_other 11 a.taken item _ _ (ne_of 1 11 h.0 (λ e. omega arith)) (stands.whole on).1)
      (exit-more (arrived a.taken) item s.exit
      (no_exit item (ne_of 1 12 h.0 (λ e. omega arith))) stands.exit))
  shown_stands new (inr (inl h)) =
      subst (λ (n : ShellPluginState). PluginStandsFor (record n { refused = None }) hearing)
      (sym h.1.0)
      (heard s.output new.errors s.exit
      (writes_other 1 a.taken item _ _ (ne_of 11 1 h.0 (λ e. omega arith)) (stands.whole on).0)
      (writes_item 11 a.taken item _ _ _ h.0 (stands.whole on).1 h.1.1)
      (exit-more (arrived a.taken) item s.exit
      (no_exit item (ne_of 11 12 h.0 (λ e. omega arith))) stands.exit))
  shown_stands new (inr (inr h)) =
      ⊎_elim
      (λ (k : IsNoExit item × (new ≡ s)).
      subst (λ (n : ShellPluginState). PluginStandsFor (record n { refused = None }) hearing)
      (sym k.1)
      (heard s.output s.errors s.exit
      (writes_other 1 a.taken item _ _ h.0 (stands.whole on).0)
      (writes_other 11 a.taken item _ _ h.1 (stands.whole on).1)
      (exit-more (arrived a.taken) item s.exit k.0 stands.exit)))
      (λ (k : (status : ℤ) × IsExit status item × (new ≡ record s { exit = Some status })).
      subst (λ (n : ShellPluginState). PluginStandsFor (record n { refused = None }) hearing)
      (sym k.2)
      (heard s.output s.errors (Some k.0)
      (writes_other 1 a.taken item _ _ h.0 (stands.whole on).0)
      (writes_other 11 a.taken item _ _ h.1 (stands.whole on).1)
      (exit-now (arrived a.taken) item k.0 k.1))) h.3

  pub stopped_stands : (new : ShellPluginState)
      → Shows item s false new
      → PluginStandsFor (record new { refused = Some SessionFault.Write }) hearing
  stopped_stands new (inl h) =
      subst (λ (n : ShellPluginState). PluginStandsFor
      (record n { refused = Some SessionFault.Write }) hearing) (sym h.1.0)
      (stopped new.output s.errors new.output_faults s.errors_faults
      (inr (
        part_of_item 1 a.taken item _ _ _ h.0
            (stands.whole on).0 h.1.1,
        rises_on _ _ _ stands.counted.0 h.1.2,
      ))
      (inl (writes_other 11 a.taken item _ _ (ne_of 1 11 h.0 (λ e. omega arith))
      (stands.whole on).1))
      (ne_of 1 12 h.0 (λ e. omega arith))
      (inl (rises_on _ _ _ stands.counted.0 h.1.2))
      ((let e = stands.counted.0 in let f = h.1.3 in omega arith), stands.counted.1))
  stopped_stands new (inr (inl h)) =
      subst (λ (n : ShellPluginState). PluginStandsFor
      (record n { refused = Some SessionFault.Write }) hearing) (sym h.1.0)
      (stopped s.output new.errors s.output_faults new.errors_faults
      (inl (writes_other 1 a.taken item _ _ (ne_of 11 1 h.0 (λ e. omega arith))
      (stands.whole on).0))
      (inr (
        part_of_item 11 a.taken item _ _ _ h.0
            (stands.whole on).1 h.1.1,
        rises_on _ _ _ stands.counted.1 h.1.2,
      ))
      (ne_of 11 12 h.0 (λ e. omega arith))
      (inr (rises_on _ _ _ stands.counted.1 h.1.2))
      (stands.counted.0, (let e = stands.counted.1 in let f = h.1.3 in omega arith)))
  stopped_stands new (inr (inr h)) = absurd (false≢true h.2)
