-- One parcel at the plugin's end of a shell session.
use Rattle.std.proofs.Common.{◌≡◌, ◌≤◌, ℕ, Bool, true, false, None, Result, Ok, Err, ◌⊎◌, inl, inr, ⊎_elim, List, [], ◌∷◌, ◌++◌, All, length, map, sym, refl, ap, ◌∙◌, subst, arith, append-nil}
use Rattle.std.proofs.lemmas.Bool.{false≢true}
use Rattle.std.proofs.lemmas.List.Elements.{All-cons, All-nil}
use Rattle.chan_io.specs.Faults.{Rises}
use Rattle.chan_values.specs.Limits.{max_payload}
use Rattle.chan_values.specs.declared.item.Item.{Item}
use Rattle.session_feeds.specs.Marks.{IsNew}
use Rattle.session_feeds.specs.Sessions.{AddsMarks, AllSmall}
use Rattle.session_feeds.specs.declared.session.SessionFault.{SessionFault}
use Rattle.session_feeds.specs.declared.session.Verdict.{Verdict}
use Rattle.session_run.specs.declared.parcel.Parcel.{Parcel}
use Rattle.shell_session.specs.Items.{terminate}
use Rattle.shell_session.specs.PluginSteps.{Flags, Shows, Takes}
use Rattle.shell_session.specs.Plugins.{PluginStandsFor, ShellPluginState, plugin_out}
use Rattle.shell_session.specs.Readings.{Reading, told_by}
use Rattle.shell_session.specs.Verdicts.{AsksNothing, AsksToPut}
use Rattle.shell_session.proofs.PluginLemmas.{shown_stands, stopped_stands}
use Rattle.shell_session.proofs.PluginParcels.{flag_stands, quiet_stands, starved_stands}

-- what an item changes is neither whether it was begun nor which feeders are out
shows_keeps : (item : Item) (s new : ShellPluginState) (done : Bool)
    → Shows item s done new
    → (new.begun ≡ s.begun) × (plugin_out new ≡ plugin_out s)
shows_keeps item s new true (inl h) = (
  ap (λ (n : ShellPluginState). n.begun) h.1.0,
  ap
      (λ (n : ShellPluginState). plugin_out n) h.1.0,
)
shows_keeps item s new false (inl h) = (
  ap (λ (n : ShellPluginState). n.begun) h.1.0,
  ap
      (λ (n : ShellPluginState). plugin_out n) h.1.0,
)
shows_keeps item s new true (inr (inl h)) = (
  ap (λ (n : ShellPluginState). n.begun) h.1.0,
  ap
      (λ (n : ShellPluginState). plugin_out n) h.1.0,
)
shows_keeps item s new false (inr (inl h)) = (
  ap (λ (n : ShellPluginState). n.begun) h.1.0,
  ap
      (λ (n : ShellPluginState). plugin_out n) h.1.0,
)
shows_keeps item s new done (inr (inr h)) =
    ⊎_elim
    (λ k. (
      ap (λ (n : ShellPluginState). n.begun) k.1,
      ap
          (λ (n : ShellPluginState). plugin_out n) k.1,
    ))
    (λ k. (
      ap (λ (n : ShellPluginState). n.begun) k.2,
      ap
          (λ (n : ShellPluginState). plugin_out n) k.2,
    )) h.3

raises : (item : Item) (s new : ShellPluginState)
    → Shows item s false new
    → Rises s.output_faults new.output_faults ⊎ Rises s.errors_faults new.errors_faults
raises item s new (inl h) = inl h.1.2
raises item s new (inr (inl h)) = inr h.1.2
raises item s new (inr (inr h)) = absurd (false≢true h.2)

-- no feeder more is out
no_more : (before after : List ℕ) (feeders : List Reading)
    → after ≡ before
    → feeders ≡ []
    → AddsMarks told_by before feeders after
no_more before after feeders same none =
    same ∙ sym (ap (λ l. before ++ map (λ f. (told_by f).mark) l) none ∙ append-nil before)

none_new : (feeders : List Reading) → feeders ≡ [] → All (λ f. IsNew (told_by f)) feeders
none_new feeders none =
    subst (λ l. All (λ f. IsNew (told_by f)) l) (sym none) (All-nil (λ f. IsNew (told_by f)))

no_items : (puts : List Item) → puts ≡ [] → AllSmall puts
no_items puts none =
    subst AllSmall (sym none) (All-nil (λ (item : Item). length item.payload ≤ max_payload))

-- a write failed
pub takes_stopped : (item : Item) (s new : ShellPluginState)
    → s.begun ≡ true
    → s.refused ≡ None
    → Shows item s false new
    → Takes (Parcel.Arrived item) s (Err SessionFault.Write) new
takes_stopped item s new begun on shows = record {
  begun = (shows_keeps item s new false shows).0 ∙ begun;
  stands = λ a stands. stopped_stands item s a begun on stands new shows;
  out = no_more (plugin_out s) (plugin_out new) [] (shows_keeps item s new false shows).1 refl;
  fits = no_items [] refl;
  fresh = none_new [] refl;
  ends = tt;
  fault = raises item s new shows;
}

-- all of an item was shown
pub takes_shown : (item : Item) (s new : ShellPluginState) (verdict : Verdict Reading)
    → s.begun ≡ true
    → s.refused ≡ None
    → Shows item s true new
    → AsksNothing verdict
    → Takes (Parcel.Arrived item) s (Ok verdict) new
takes_shown item s new verdict begun on shows asks = record {
  begun = (shows_keeps item s new true shows).0 ∙ begun;
  stands = λ a stands.
      subst (λ l. PluginStandsFor (record new { refused = None })
      (record a { taken = a.taken ++ Parcel.Arrived item ∷ []; given = a.given ++ l }))
      (sym asks.puts)
      (shown_stands item s a begun on stands new shows);
  out =
      no_more (plugin_out s) (plugin_out new) verdict.feeders.items
      (shows_keeps item s new true shows).1 asks.feeders;
  fits = no_items verdict.puts asks.puts;
  fresh = none_new verdict.feeders.items asks.feeders;
  ends = inr asks;
  fault = tt;
}

-- the direction of the other side ended
pub takes_finished : (s : ShellPluginState) (verdict : Verdict Reading)
    → s.begun ≡ true
    → s.refused ≡ None
    → AsksNothing verdict
    → Takes Parcel.Finished s (Ok verdict) s
takes_finished s verdict begun on asks = record {
  begun = begun;
  stands = λ a stands.
      subst (λ l. PluginStandsFor (record s { refused = None })
      (record a { taken = a.taken ++ Parcel.Finished ∷ []; given = a.given ++ l })) (sym asks.puts)
      (quiet_stands Parcel.Finished s a begun on refl stands (inl refl));
  out = no_more (plugin_out s) (plugin_out s) verdict.feeders.items refl asks.feeders;
  fits = no_items verdict.puts asks.puts;
  fresh = none_new verdict.feeders.items asks.feeders;
  ends = inr asks;
  fault = tt;
}

-- Flag 2 was given before
flagged_before : (s new : ShellPluginState) (verdict : Verdict Reading)
    → s.begun ≡ true
    → s.refused ≡ None
    → s.flagged ≡ true
    → AsksNothing verdict
    → new ≡ s
    → Takes Parcel.Over s (Ok verdict) new
flagged_before s new verdict begun on flagged asks same =
    subst (λ (n : ShellPluginState). Takes Parcel.Over s (Ok verdict) n) (sym same) (record {
      begun = begun;
      stands = λ a stands.
          subst (λ l. PluginStandsFor (record s { refused = None })
          (record a { taken = a.taken ++ Parcel.Over ∷ []; given = a.given ++ l })) (sym asks.puts)
          (quiet_stands Parcel.Over s a begun on refl stands (inr flagged));
      out = no_more (plugin_out s) (plugin_out s) verdict.feeders.items refl asks.feeders;
      fits = no_items verdict.puts asks.puts;
      fresh = none_new verdict.feeders.items asks.feeders;
      ends = inr asks;
      fault = tt;
    })

-- it is given now
flagged_now : (s new : ShellPluginState) (verdict : Verdict Reading)
    → s.begun ≡ true
    → s.refused ≡ None
    → s.flagged ≡ false
    → AsksToPut terminate true false verdict
    → new ≡ record s { flagged = true }
    → Takes Parcel.Over s (Ok verdict) new
flagged_now s new verdict begun on flagged asks same =
    subst (λ (n : ShellPluginState). Takes Parcel.Over s (Ok verdict) n) (sym same) (record {
      begun = begun;
      stands = λ a stands.
          subst (λ l. PluginStandsFor (record s { flagged = true; refused = None })
          (record a { taken = a.taken ++ Parcel.Over ∷ []; given = a.given ++ l })) (sym asks.puts)
          (flag_stands Parcel.Over s a begun on refl stands flagged refl);
      out = no_more (plugin_out s) (plugin_out s) verdict.feeders.items refl asks.feeders;
      fits =
          subst AllSmall (sym asks.puts)
          (All-cons (λ (item : Item). length item.payload ≤ max_payload) terminate [] (omega arith)
          (All-nil (λ (item : Item). length item.payload ≤ max_payload)));
      fresh = none_new verdict.feeders.items asks.feeders;
      ends = inl asks;
      fault = tt;
    })

-- memory was wanted
flag_starved : (s new : ShellPluginState)
    → s.begun ≡ true
    → s.refused ≡ None
    → s.flagged ≡ false
    → new ≡ s
    → Takes Parcel.Over s (Err SessionFault.NoMemory) new
flag_starved s new begun on flagged same =
    subst (λ (n : ShellPluginState). Takes Parcel.Over s (Err SessionFault.NoMemory) n) (sym same)
    (record {
      begun = begun;
      stands = λ a stands. starved_stands Parcel.Over s a begun on refl stands flagged;
      out = no_more (plugin_out s) (plugin_out s) [] refl refl;
      fits = no_items [] refl;
      fresh = none_new [] refl;
      ends = tt;
      fault = tt;
    })

-- a feeder gave all
pub takes_over : (s new : ShellPluginState) (result : Result (Verdict Reading) SessionFault)
    → s.begun ≡ true
    → s.refused ≡ None
    → Flags s result new
    → Takes Parcel.Over s result new
takes_over s new (Ok verdict) begun on (inl f) = flagged_before s new verdict begun on f.0 f.1 f.2
takes_over s new (Ok verdict) begun on (inr f) = flagged_now s new verdict begun on f.0 f.1 f.2
takes_over s new (Err SessionFault.NoMemory) begun on f = flag_starved s new begun on f.0 f.1
takes_over s new (Err (SessionFault.Handshake why)) begun on f = absurd f
takes_over s new (Err SessionFault.Start) begun on f = absurd f
takes_over s new (Err SessionFault.Child) begun on f = absurd f
takes_over s new (Err SessionFault.Port) begun on f = absurd f
takes_over s new (Err SessionFault.Write) begun on f = absurd f
takes_over s new (Err (SessionFault.Frames n)) begun on f = absurd f
