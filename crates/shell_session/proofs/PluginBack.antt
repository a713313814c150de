-- The feeder of the user's input comes back to the plugin's end of a shell session.
use Rattle.std.proofs.Common.{◌≡◌, ◌<◌, ℕ, ◌^◌, false, Option, Some, None, IfSome, zero, suc, slice_index_or, ◌⊎◌, inl, inr, ⊎_elim, List, [], ◌∷◌, ◌++◌, Contains, drop, length, sym, refl, ap, ◌∙◌, subst, arith, length-append}
use Rattle.std.proofs.lemmas.Option.{none-some}
use Rattle.std.proofs.lemmas.List.Elements.{All-append, All-push, All-weaker}
use Rattle.chan_io.specs.Faults.{Rises}
use Rattle.chan_io.specs.Sources.{Input}
use Rattle.chan_values.specs.declared.item.Item.{Item}
use Rattle.session_feeds.specs.Sessions.{Account, TakesOut}
use Rattle.session_feeds.specs.declared.feeder.Came.{Came}
use Rattle.session_feeds.specs.declared.session.SessionFault.{SessionFault}
use Rattle.shell_session.specs.Items.{of_type, terminate}
use Rattle.shell_session.specs.Plugins.{GaveFlag, GaveNoFlag, IsInputBack, IsOfInput, IsPluginFault, PluginStandsFor, ShellPluginState, mark_out, plugin_out}
use Rattle.shell_session.specs.Readings.{Gave, IsReading, Reading, given_before, mark_for, payloads, told_by}
use Rattle.shell_session.specs.Streams.{StreamsTold}
use Rattle.shell_session.proofs.BackLemmas.{other_pieces, typed_pieces}
use Rattle.shell_session.proofs.ParcelLemmas.{of_type-append, of_type-none}

plugin_fault_is : (s s' : ShellPluginState) (a a' : Account StreamsTold) (f : SessionFault)
    → a'.contents ≡ a.contents
    → s'.output_faults ≡ s.output_faults
    → s'.errors_faults ≡ s.errors_faults
    → IsPluginFault f s a
    → IsPluginFault f s' a'
plugin_fault_is s s' a a' SessionFault.Write c o e is =
    ⊎_elim
    (λ out. inl
    (subst (λ (t : StreamsTold). Rises t.output_faults s'.output_faults) (sym c)
    (subst (λ n. Rises a.contents.output_faults n) (sym o) out)))
    (λ err. inr
    (subst (λ (t : StreamsTold). Rises t.errors_faults s'.errors_faults) (sym c)
    (subst (λ n. Rises a.contents.errors_faults n) (sym e) err))) is
plugin_fault_is s s' a a' SessionFault.NoMemory c o e is = tt
plugin_fault_is s s' a a' (SessionFault.Handshake why) c o e is = absurd is
plugin_fault_is s s' a a' SessionFault.Start c o e is = absurd is
plugin_fault_is s s' a a' SessionFault.Child c o e is = absurd is
plugin_fault_is s s' a a' SessionFault.Port c o e is = absurd is
plugin_fault_is s s' a a' (SessionFault.Frames n) c o e is = absurd is

plugin_fault_kept : (s s' : ShellPluginState) (a a' : Account StreamsTold) (o : Option SessionFault)
    → a'.contents ≡ a.contents
    → s'.output_faults ≡ s.output_faults
    → s'.errors_faults ≡ s.errors_faults
    → IfSome o (λ f. IsPluginFault f s a)
    → IfSome o (λ f. IsPluginFault f s' a')
plugin_fault_kept s s' a a' None c f e is = tt
plugin_fault_kept s s' a a' (Some fault) c f e is = plugin_fault_is s s' a a' fault c f e is

-- ---- the feeder of the input comes back

-- the mark of a feeder tells its type and how much its source had given
mark_same : (ptype before first : ℕ)
    → mark_for ptype before ≡ mark_for 1 first
    → ptype < 2 ^ 32
    → (ptype ≡ 1) × (before ≡ first)
mark_same ptype before first is short = (omega arith, omega arith)

at_one : (m mark k : ℕ) → k < length (m ∷ []) → slice_index_or (m ∷ []) k mark ≡ mark → mark ≡ m
at_one m mark zero k is = sym is
at_one m mark (suc n) k is = absurd (omega arith)

of_one : (m mark : ℕ) (r : Option Reading) → Contains (mark_out m r) mark → (r ≡ None) × (mark ≡ m)
of_one m mark None has = (refl, at_one m mark has.0 has.1 has.2)
of_one m mark (Some r) has = absurd (let l = has.1 in omega arith)

drop_over : (xs ys : List ℕ) → drop (length xs) (xs ++ ys) ≡ ys
drop_over [] ys = refl
drop_over (x ∷ xs) ys = drop_over xs ys

-- what the source gave since is what is left of all that it gave behind what it had given at first
gave_since : (first now : Option Input) (bytes : List ℕ) (before : ℕ)
    → given_before first ≡ before
    → Gave bytes first now
    → IfSome now (λ input. bytes ≡ drop before input.given)
gave_since None now bytes before is gave =
    subst (λ o. IfSome o (λ (input : Input). bytes ≡ drop before input.given)) (sym gave) tt
gave_since (Some first) now bytes before is gave =
    subst (λ o. IfSome o (λ (input : Input). bytes ≡ drop before input.given)) (sym gave.1)
    (sym (ap (λ n. drop n (first.given ++ bytes)) (sym is) ∙ drop_over first.given bytes))

module _ (s : ShellPluginState) (r : Reading) (reads : IsReading r)
    (has : Contains (plugin_out s) (told_by r).mark) where
  pub gone : s.input ≡ None
  gone = (of_one (mark_for 1 (given_before s.first)) _ s.input has).0

  marked : (told_by r).mark ≡ mark_for 1 (given_before s.first)
  marked = (of_one (mark_for 1 (given_before s.first)) _ s.input has).1

  parts : (r.ptype ≡ 1) × (given_before r.first ≡ given_before s.first)
  parts = mark_same r.ptype (given_before r.first) (given_before s.first) marked reads.short

  pub input_out : TakesOut (told_by r) (plugin_out s) (plugin_out (record s { input = Some r }))
  input_out = (
    [],
    [],
    ap (λ o. mark_out (mark_for 1 (given_before s.first)) o) gone ∙ ap (λ n. n ∷ []) (sym marked),
    refl,
  )

  module _ (begun : s.begun ≡ false → ⊥) (a : Account StreamsTold)
      (stands : PluginStandsFor s a) where
    empty : of_type 1 a.given ≡ []
    empty = subst (λ o. IsOfInput s.first o a.given) gone stands.input

    types : of_type 1 (a.given ++ r.pieces) ≡ r.pieces
    types =
        of_type-append 1 a.given r.pieces ∙ ap (λ l. l ++ of_type 1 r.pieces) empty
        ∙ typed_pieces 1 r parts.0 reads

    flags : of_type 10 (a.given ++ r.pieces) ≡ of_type 10 a.given
    flags = of_type-none 10 a.given r.pieces (other_pieces 10 1 r parts.0 (λ e. omega arith) reads)

    pub input_back : PluginStandsFor (record s { input = Some r })
        (record a { given = a.given ++ r.pieces; back = a.back ++ ((told_by r).mark, r.came) ∷ [] })
    input_back = record {
      fresh = λ no. absurd (begun no);
      first = stands.first;
      output = stands.output;
      errors = stands.errors;
      exit = stands.exit;
      session = All-append (λ i. (i.ptype ≡ 1) ⊎ (i ≡ terminate)) a.given r.pieces stands.session
          (All-weaker (λ (i : Item). i.ptype ≡ r.ptype) (λ i. (i.ptype ≡ 1) ⊎ (i ≡ terminate))
          (λ i e. inl (e ∙ parts.0)) r.pieces reads.typed);
      input = (
        types,
        subst (λ l. IfSome r.now (λ input. l ≡ drop (given_before s.first) input.given))
            (sym (ap (λ l. payloads l) types))
            (gave_since r.first r.now (payloads r.pieces) (given_before s.first) parts.1 reads.gave),
      );
      flag =
          ⊎_elim (λ (no : GaveNoFlag s a). inl (no.0, flags ∙ no.1, no.2))
          (λ (gave : GaveFlag s a). inr (gave.0, flags ∙ gave.1, gave.2)) stands.flag;
      back = All-push (IsInputBack (record s { input = Some r })) a.back ((told_by r).mark, r.came)
          (All-weaker (IsInputBack s) (IsInputBack (record s { input = Some r }))
          (λ b is. absurd (none-some is.0 (sym gone ∙ is.1))) a.back stands.back)
          (r, refl, ap (λ n. (n, r.came)) marked);
      feeds =
          λ b on none. absurd
          (let e = ap (λ (l : List (ℕ × Option Came)). length l) none in
          let f = length-append a.back (((told_by r).mark, r.came) ∷ []) in omega arith);
      fault =
          plugin_fault_kept s (record s { input = Some r }) a
          (record a
          { given = a.given ++ r.pieces; back = a.back ++ ((told_by r).mark, r.came) ∷ [] })
          s.refused refl refl refl stands.fault;
      whole = stands.whole;
      counted = stands.counted;
    }
