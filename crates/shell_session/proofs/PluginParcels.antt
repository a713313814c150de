-- What the plugin's end of a shell session stands for, by one parcel more that is no item.
use Rattle.std.proofs.Common.{◌≡◌, Bool, true, false, Option, Some, None, IfSome, ◌⊎◌, inl, inr, ⊎_elim, List, [], ◌∷◌, ◌++◌, All, drop, sym, refl, ap, ◌∙◌, subst, arith, append-nil, true≢false}
use Rattle.std.proofs.lemmas.Option.{none-some}
use Rattle.std.proofs.lemmas.List.Elements.{All-append, All-cons, All-nil}
use Rattle.chan_io.specs.Sinks.{Writes}
use Rattle.chan_io.specs.Sources.{Input}
use Rattle.chan_values.specs.declared.item.Item.{Item}
use Rattle.session_feeds.specs.Sessions.{Account}
use Rattle.session_feeds.specs.declared.session.SessionFault.{SessionFault}
use Rattle.session_run.specs.declared.parcel.Parcel.{Parcel}
use Rattle.shell_session.specs.Items.{LastExit, joined, of_type, terminate}
use Rattle.shell_session.specs.Parcels.{arrived, overs}
use Rattle.shell_session.specs.Plugins.{GaveFlag, GaveNoFlag, IsOfInput, IsPluginFault, PluginStandsFor, ShellPluginState, Wrote}
use Rattle.shell_session.specs.Readings.{Reading, given_before}
use Rattle.shell_session.specs.Streams.{StreamsTold}
use Rattle.shell_session.proofs.ParcelLemmas.{arrived-append, joined-none, of_type-append, of_type-none, overs-more}

-- the input's items stay those of its feeder where no item of its type is given
input_more : (first : Option Input) (r : Option Reading) (given more : List Item)
    → of_type 1 more ≡ []
    → IsOfInput first r given
    → IsOfInput first r (given ++ more)
input_more first None given more none is = of_type-none 1 given more none ∙ is
input_more first (Some r) given more none is = (
  of_type-none 1 given more none ∙ is.0,
  subst (λ l. IfSome r.now (λ input. l ≡ drop (given_before first) input.given))
      (sym (joined-none 1 given more none)) is.1,
)

-- ---- another parcel

module _ (p : Parcel) (s : ShellPluginState) (a : Account StreamsTold)
    (begun : s.begun ≡ true) (on : s.refused ≡ None)
    (away : arrived (p ∷ []) ≡ []) (stands : PluginStandsFor s a) where
  same_items : arrived (a.taken ++ p ∷ []) ≡ arrived a.taken
  same_items =
      arrived-append a.taken (p ∷ []) ∙ ap (λ l. arrived a.taken ++ l) away
      ∙ append-nil (arrived a.taken)

  -- the end behind it, with these items and these flags
  behind : (flagged : Bool) (refused : Option SessionFault) (items : List Item)
      → All (λ i. (i.ptype ≡ 1) ⊎ (i ≡ terminate)) items
      → of_type 1 items ≡ []
      → GaveNoFlag (record s { flagged = flagged; refused = refused })
      (record a { taken = a.taken ++ p ∷ []; given = a.given ++ items }) ⊎ GaveFlag
      (record s { flagged = flagged; refused = refused })
      (record a { taken = a.taken ++ p ∷ []; given = a.given ++ items })
      → IfSome refused
      (λ fault. IsPluginFault fault (record s { flagged = flagged; refused = refused })
      (record a { taken = a.taken ++ p ∷ []; given = a.given ++ items }))
      → PluginStandsFor (record s { flagged = flagged; refused = refused })
      (record a { taken = a.taken ++ p ∷ []; given = a.given ++ items })
  behind flagged refused items all none flag fault = record {
    fresh = λ no. absurd (true≢false (sym begun ∙ no));
    first = stands.first;
    output =
        subst (λ l. Wrote
        (joined 1 l) a.contents.output a.contents.output_faults s.output s.output_faults)
        (sym same_items) stands.output;
    errors =
        subst (λ l. Wrote
        (joined 11 l) a.contents.errors a.contents.errors_faults s.errors s.errors_faults)
        (sym same_items) stands.errors;
    exit = subst (λ l. LastExit l s.exit) (sym same_items) stands.exit;
    session = All-append (λ i. (i.ptype ≡ 1) ⊎ (i ≡ terminate)) a.given items stands.session all;
    input = input_more s.first s.input a.given items none stands.input;
    flag = flag;
    back = stands.back;
    feeds = λ b r none. stands.feeds begun on none;
    fault = fault;
    whole = λ r. (
      subst (λ l. Writes (joined 1 l) a.contents.output s.output) (sym same_items)
          (stands.whole on).0,
      subst (λ l. Writes (joined 11 l) a.contents.errors s.errors) (sym same_items)
          (stands.whole on).1,
    );
    counted = stands.counted;
  }

  -- Flag 2 was given before, or the parcel tells of no end of the input: nothing is given
  pub quiet_stands : overs (p ∷ []) ≡ 0 ⊎ (s.flagged ≡ true)
      → PluginStandsFor (record s { flagged = s.flagged; refused = None })
      (record a { taken = a.taken ++ p ∷ []; given = a.given ++ [] })
  quiet_stands quiet =
      behind s.flagged None [] (All-nil (λ i. (i.ptype ≡ 1) ⊎ (i ≡ terminate))) refl
      (⊎_elim
      (λ (no : GaveNoFlag s a). inl (
        no.0,
        ap (λ l. of_type 10 l) (append-nil a.given) ∙ no.1,
        λ _. ⊎_elim (λ none. let e = overs-more a.taken (p ∷ []) in let f = no.2 on in omega arith)
            (λ yes. absurd (true≢false (sym yes ∙ no.0))) quiet,
      ))
      (λ (gave : GaveFlag s a). inr (
        gave.0,
        ap (λ l. of_type 10 l) (append-nil a.given) ∙ gave.1,
        let e = overs-more a.taken (p ∷ []) in let f = gave.2 in omega arith,
      )) stands.flag) tt

  not_flagged : s.flagged ≡ false → of_type 10 a.given ≡ []
  not_flagged none =
      ⊎_elim (λ (no : GaveNoFlag s a). no.1)
      (λ (gave : GaveFlag s a). absurd (true≢false (sym gave.0 ∙ none))) stands.flag

  -- it is given now
  pub flag_stands : s.flagged ≡ false
      → overs (p ∷ []) ≡ 1
      → PluginStandsFor (record s { flagged = true; refused = None })
      (record a { taken = a.taken ++ p ∷ []; given = a.given ++ terminate ∷ [] })
  flag_stands none one =
      behind true None (terminate ∷ [])
      (All-cons (λ i. (i.ptype ≡ 1) ⊎ (i ≡ terminate)) terminate [] (inr refl)
      (All-nil (λ i. (i.ptype ≡ 1) ⊎ (i ≡ terminate)))) refl
      (inr (
        refl,
        of_type-append 10 a.given (terminate ∷ [])
            ∙ ap (λ l. l ++ terminate ∷ []) (not_flagged none),
        let e = overs-more a.taken (p ∷ []) in omega arith,
      )) tt

  -- memory was wanted
  pub starved_stands : s.flagged ≡ false
      → PluginStandsFor (record s { flagged = s.flagged; refused = Some SessionFault.NoMemory })
      (record a { taken = a.taken ++ p ∷ []; given = a.given ++ [] })
  starved_stands none =
      behind s.flagged (Some SessionFault.NoMemory) []
      (All-nil (λ i. (i.ptype ≡ 1) ⊎ (i ≡ terminate))) refl
      (inl (
        none,
        ap (λ l. of_type 10 l) (append-nil a.given)
            ∙ not_flagged none,
        λ r. absurd (none-some SessionFault.NoMemory (sym r)),
      )) tt
