-- Whether data of a stream is kept, and a stream that is changed.
use Rattle.std.proofs.Common.{◌≡◌, ◌≢◌, ℕ, ◌+◌, ◌-◌, ◌<◌, ◌≤◌, Bool, true, false, eqb, ltb, leb, cond, not, ◌&&◌, Option, Some, None, List, [], ◌∷◌, ◌++◌, ◌⊎◌, inl, inr, ⊎_elim, refl, sym, ap, subst, ◌∙◌, arith, length, take, drop, is_some}
use Rattle.std.specs.Prelude.{option_to_list}
use Rattle.std.specs.List.{list_all}
use Rattle.std.specs.Option.{option_map}
use Rattle.std.proofs.lemmas.List.{append-nil, length-append}
use Rattle.std.proofs.lemmas.Bool.{cases_Bool, both_ways, ne_eqb, eq-eqb, cases_eq, lt-ltb, le-ltb}
use Rattle.smux_frames.specs.declared.frame.Frame.{Frame}
use Rattle.smux_frames.specs.declared.frame.Cmd.{Cmd}
use Rattle.smux_frames.specs.declared.frame.Cmd.TheVariants as cmds
use Rattle.smux_frames.specs.declared.fault.FrameFault.{FrameFault}
use Rattle.smux_frames.specs.declared.coming.Coming.{Coming}
use Rattle.smux_frames.specs.Coming.{coming_of}
use Rattle.smux_frames.specs.Reading.{Pending, frame_now, fault_now, pending_now}
use Rattle.smux_acts.specs.declared.event.Event.{Event}
use Rattle.smux_acts.specs.declared.event.Event.TheVariants as events
use Rattle.smux_acts.specs.Signals.{Signal, Syn, Fin, Psh, Nop}
use Rattle.smux_acts.specs.Acts as acts
use Rattle.smux_acts.specs.Acts.{Came, called, delivered, ended, event_of, finished, got, live, living, opened, over, streams}
use Rattle.smux_store.specs.declared.stream.Stream.{Stream}
use Rattle.smux_store.specs.declared.trail.Step.{Step}
use Rattle.smux_store.specs.declared.trail.Step.TheVariants as steps
use Rattle.smux_streams.specs.History.{Seen, come, signal_by, signal_of, with_fault}
use Rattle.smux_store.specs.Kept.{holding, untaken, WasPassed, is_above}
use Rattle.smux_streams.specs.Legal.{waits_by}
use Rattle.smux_store.specs.Streams.{fresh, stream_with, takes_data, undo_at, undone, with_data, with_end, without_last}
use Rattle.smux_streams.specs.Stands.{Keeps, MuxState}
use Rattle.smux_streams.specs.Steps.{IsWhole, LeadsBack, PartGoes, Passes, PassesFrom, come_event, moved}
use Rattle.smux_store.proofs.ShowLemmas.{Found, some_found}
use Rattle.smux_store.proofs.KindLemmas.{IsTaken, IsTold, called_test}
use Rattle.smux_store.proofs.ViewLemmas.{drop_front, view}
use Rattle.smux_streams.proofs.KeepLemmas.{after, begin_goes, quiet_goes, touch_goes}
use Rattle.smux_streams.proofs.CloseLemmas.{fin_frame}
use Rattle.smux_streams.proofs.CallLemmas.{room_is, same_begun, same_last}
use Rattle.smux_store.proofs.ActLemmas.{shows_by, take_all, quiet_came, opens_here, refused_quiet, ended_touches, ended_view, ready_touches, ready_view, undone_push, old_last, new_last}

-- whether data of a stream is kept
pub data_is : (client : Bool) (m : MuxState) (given : List ℕ) (s : Seen) (sid : ℕ)
    → Keeps client m given s
    → acts.takes_data sid s.acts ≡ takes_data (stream_with m.streams sid)
data_is client m given s sid k = at (live sid s.acts) refl
  where
    at : (b : Bool)
        → live sid s.acts ≡ b
        → acts.takes_data sid s.acts ≡ takes_data (stream_with m.streams sid)
    at true e =
        let o : opened sid s.acts ≡ true =
        first (opened sid s.acts) (not (ended sid s.acts && finished sid s.acts)) e in
        let f : stream_with m.streams sid
        ≡ Some (record {
          queue = untaken sid s.acts;
          over = over sid s.acts;
          shut =
              ended sid s.acts;
          finished = finished sid s.acts;
        }) = k.found sid ∙ (rw e refl) in
        rw (o, f) refl
      where
        first : (a b : Bool) → (a && b) ≡ true → a ≡ true
        first true b h = refl
        first false b h = absurd (both_ways false refl h)
    at false e = dead (opened sid s.acts) refl ∙ sym (ap takes_data f)
      where
        f : stream_with m.streams sid ≡ None
        f = k.found sid ∙ (rw e refl)

        both : (a b : Bool) → not (a && b) ≡ false → b ≡ true
        both true true h = refl
        both true false h = absurd (both_ways true h refl)
        both false b h = absurd (both_ways true h refl)

        dead : (b : Bool) → opened sid s.acts ≡ b → acts.takes_data sid s.acts ≡ false
        dead false o = rw o refl
        dead true o =
            let z : not (ended sid s.acts && finished sid s.acts) ≡ false = rw o at e in
            let t : over sid s.acts ≡ true =
            k.orderly.told sid (both (ended sid s.acts) (finished sid s.acts) z) in
            rw (o, t) refl

-- a stream of which data is kept
pub record Open (client : Bool) (s : Seen) (o : Option Stream) (sid : ℕ) : Type 0 where
  pub stream : Stream
  pub is : o ≡ Some stream
  pub found : Found sid s.acts stream
  pub going : stream.over ≡ false
  pub kept : acts.takes_data sid s.acts ≡ true

pub open_at : (client : Bool) (m : MuxState) (given : List ℕ) (s : Seen) (sid : ℕ)
    → Keeps client m given s
    → takes_data (stream_with m.streams sid) ≡ true
    → Open client s (stream_with m.streams sid) sid
open_at client m given s sid k h = at (stream_with m.streams sid) refl
  where
    at : (o : Option Stream)
        → stream_with m.streams sid ≡ o
        → Open client s (stream_with m.streams sid) sid
    at None e = absurd (both_ways false refl (sym (ap takes_data e) ∙ h))
    at (Some t) e = record {
      stream = t;
      is = e;
      found = some_found sid s.acts t (sym (k.found sid) ∙ e);
      going = inverse t.over (sym (ap takes_data e) ∙ h);
      kept = data_is client m given s sid k ∙ h;
    }
      where
        inverse : (b : Bool) → not b ≡ true → b ≡ false
        inverse false h = refl
        inverse true h = absurd (both_ways false refl h)

-- the streams of which one was changed
pub changed : (m : MuxState) (sid : ℕ) (t u : Stream) (f : Stream → Stream)
    → stream_with m.streams sid ≡ Some t
    → f t ≡ u
    → (u.shut && u.finished) ≡ false
    → (q : ℕ)
    → cond (eqb q sid) (option_map f (stream_with m.streams q)) (stream_with m.streams q)
    ≡ cond (eqb q sid) (cond (u.shut && u.finished) None (Some u)) (stream_with m.streams q)
changed m sid t u f e h z q = ⊎_elim
    (λ (i : q ≡ sid). let b = eq-eqb q sid i in let w : stream_with m.streams q ≡ Some t =
    ap (stream_with m.streams) i ∙ e in rw (b, z, w, h) refl)
    (λ (ne : q ≢ sid). let b = ne_eqb q sid ne in rw b refl)
    (cases_eq q sid)

pub alive : (t : Stream) (sid : ℕ) (s : Seen) → Found sid s.acts t → (t.shut && t.finished) ≡ false
alive t sid s f =
    let a = f.live in
    let o = f.shows.opened in
    let h = f.shows.shut in
    let d = f.shows.done in
    inverse (t.shut && t.finished)
    (let z : not (ended sid s.acts && finished sid s.acts) ≡ true = rw o at a in
    rw (h, d) z)
  where
    inverse : (b : Bool) → not b ≡ true → b ≡ false
    inverse false h = refl
    inverse true h = absurd (both_ways false refl h)
