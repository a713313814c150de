-- How a Mux goes on to stand for a close.
use Rattle.std.proofs.Common.{Result, Ok, Err, ◌≡◌, ◌≢◌, ℕ, ◌+◌, ◌-◌, ◌*◌, ◌<◌, ◌≤◌, ◌^◌, Bool, true, false, eqb, ltb, cond, ◌&&◌, Option, Some, None, List, [], ◌∷◌, ◌++◌, inl, inr, ⊎_elim, refl, sym, ap, subst, ◌∙◌, arith, length, take, drop, leb}
use Rattle.std.specs.List.{list_all}
use Rattle.std.specs.Option.{option_map}
use Rattle.std.specs.Result.{IfOk, OnOk, OnErr, result_ok}
use Rattle.std.proofs.lemmas.List.{append-nil, length-append, length-drop, drop-drop}
use Rattle.std.proofs.lemmas.Bool.{cases_Bool, ne_eqb, eq-eqb, cases_eq, lt-ltb, le-ltb}
use Rattle.smux_frames.specs.declared.frame.Cmd.TheVariants as cmds
use Rattle.smux_frames.specs.Spelling.{spelling}
use Rattle.smux_acts.specs.Acts.{Act, Began, Wrote, Shut, called, streams, opened, opened_in, ended, living}
use Rattle.smux_store.specs.declared.stream.Stream.{Stream}
use Rattle.smux_store.specs.declared.answers.Open.TheVariants as opens
use Rattle.smux_streams.specs.declared.answers.Write.TheVariants as writes
use Rattle.smux_streams.specs.Call.{Opens, Writes, Closes, Outs, Holds, IsCall}
use Rattle.smux_streams.specs.History.{Seen, given, left, outbytes}
use Rattle.smux_streams.specs.Legal.{has_room}
use Rattle.smux_store.specs.Streams.{fresh, is_dead, still, stream_with, with_shut}
use Rattle.smux_streams.specs.Stands.{Follows, Forgets, Keeps, MuxState}
use Rattle.smux_store.specs.Kept.{WasPassed, is_above}
use Rattle.smux_store.proofs.KindLemmas.{IsTaken, IsTold, called_in, called_test}
use Rattle.smux_store.proofs.ShowLemmas.{Shows, none_dead, some_found}
use Rattle.smux_store.proofs.ViewLemmas.{begin_streams, one, quiet_streams, view}
use Rattle.smux_streams.proofs.KeepLemmas.{begin_goes, follows, quiet_goes, stays, touch_goes}
use Rattle.smux_store.proofs.ActLemmas.{drop_as_taken, take_fits, shows_by, shut_touches, shut_view, wrote_quiet, began}
use Rattle.smux_streams.proofs.CallLemmas.{after_forget, after_living, room_is, same_begun, same_last}

-- closing
pub close_unknown : (m : MuxState) (sid : ℕ)
    → sid < 2 ^ 32
    → stream_with m.streams sid ≡ None
    → Follows m m (Closes sid writes.Unknown)
close_unknown m sid c h = follows m m (Closes sid writes.Unknown) (λ client given s k.
    let d = none_dead sid s.acts (sym (k.found sid) ∙ h) in
    record { call = c; answered = inl (rw d refl); keeps = stays m client given s k })

pub close_closed : (m : MuxState) (sid : ℕ) (t : Stream)
    → sid < 2 ^ 32
    → stream_with m.streams sid ≡ Some t
    → t.shut ≡ true
    → Follows m m (Closes sid writes.Closed)
close_closed m sid t c h z = follows m m (Closes sid writes.Closed) (λ client given s k.
    let d = some_found sid s.acts t (sym (k.found sid) ∙ h) in
    let e : ended sid s.acts ≡ true = sym d.shows.shut ∙ z in
    record { call = c; answered = inl (rw (d.live, e) refl); keeps = stays m client given s k })

pub close_full : (m : MuxState) (sid : ℕ) (t : Stream)
    → sid < 2 ^ 32
    → stream_with m.streams sid ≡ Some t
    → t.shut ≡ false
    → leb (length m.out + (8 + 0)) 1048576 ≡ false
    → Follows m m (Closes sid writes.Full)
close_full m sid t c h z l = follows m m (Closes sid writes.Full) (λ client given s k.
    let d = some_found sid s.acts t (sym (k.found sid) ∙ h) in
    let e : ended sid s.acts ≡ false = sym d.shows.shut ∙ z in
    let r = room_is client m given s 8 false k l in
    record { call = c; answered = inl (rw (d.live, e, r) refl); keeps = stays m client given s k })

pub close_nothing : (m : MuxState) (sid : ℕ)
    → sid < 2 ^ 32
    → Follows m m (Closes sid writes.NoMemory)
close_nothing m sid c =
    follows m m (Closes sid writes.NoMemory)
    (λ client given s k. record {
      call = c;
      answered = inr refl;
      keeps =
          stays m client given s k;
    })

-- the bytes of a frame without data
abbrev pub fin_frame : ℕ → List ℕ
fin_frame sid = spelling (record { cmd = cmds.Fin; sid = sid; payload = [] })

pub close_done : (m mid n : MuxState) (sid : ℕ) (t : Stream)
    → sid < 2 ^ 32
    → stream_with m.streams sid ≡ Some t
    → t.shut ≡ false
    → leb (length m.out + (8 + 0)) 1048576 ≡ true
    → mid ≡ record m { out = m.out ++ fin_frame sid; streams = mid.streams }
    → ((q : ℕ) → stream_with mid.streams q
    ≡ cond (eqb q sid) (option_map with_shut (stream_with m.streams q)) (stream_with m.streams q))
    → Forgets mid n sid
    → Follows m n (Closes sid writes.Done)
close_done m mid n sid t c h z l e shut g =
    follows m n (Closes sid writes.Done) (λ client given s k.
    let d = some_found sid s.acts t (sym (k.found sid) ∙ h) in
    let f : ended sid s.acts ≡ false = sym d.shows.shut ∙ z in
    let r = room_is client m given s 8 true k l in
    let x = Shut sid in
    let u = with_shut t in
    let here : stream_with mid.streams sid ≡ Some u =
    shut sid ∙ (let i : eqb sid sid ≡ true = eq-eqb sid sid refl in rw (i, h) refl) in
    let others : (q : ℕ) → q ≢ sid → stream_with mid.streams q ≡ stream_with m.streams q =
    λ q ne. shut q ∙ (let i : eqb q sid ≡ false = ne_eqb q sid ne in rw i refl) in
    let y = g.same in
    let w : Shows u sid (s.acts ++ x ∷ []) =
    shows_by u sid s.acts (s.acts ++ x ∷ []) (record (view sid s.acts) { ended = true })
    (shut_view sid s.acts) d.shows.opened d.shows.queue d.shows.over refl d.shows.done in
    record {
      call = c;
      answered = inl (rw (d.live, f, r) refl);
      keeps = rw append-nil
          (touch_goes client m n given s s.pending x sid t u (shut_touches sid) k (record {
            client = ap (λ (y : MuxState). y.client) y ∙ ap (λ (y : MuxState). y.client) e;
            pending = ap (λ (y : MuxState). y.pending) y ∙ ap (λ (y : MuxState). y.pending) e
                ∙ k.pending;
            out = ap (λ (y : MuxState). y.out) y ∙ ap (λ (y : MuxState). y.out) e;
            begun = same_begun client m n given s x k (ap (λ (y : MuxState). y.begun) y
                ∙ ap (λ (y : MuxState). y.begun) e) refl;
            last = same_last client m n given s x k (ap (λ (y : MuxState). y.last) y
                ∙ ap (λ (y : MuxState). y.last) e) refl;
          }) d w (subst IsTold (sym (shut_view sid s.acts)) (k.orderly.told sid))
          (subst IsTaken (sym (shut_view sid s.acts)) (k.orderly.taken sid))
          (after_forget m mid n sid u here others g) (after_living mid n sid u here g
          ∙ ap (λ (y : MuxState). y.living - one (u.shut && u.finished)) e)
          (λ i. ap (λ (y : MuxState). y.held) y ∙ ap (λ (y : MuxState). y.held) e
          ∙ (omega (arith, i))));
    })
