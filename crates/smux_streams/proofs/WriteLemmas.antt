-- How a Mux goes on to stand for a write.
use Rattle.std.proofs.Common.{Result, Ok, Err, ◌≡◌, ◌≢◌, ℕ, ◌+◌, ◌-◌, ◌*◌, ◌<◌, ◌≤◌, ◌^◌, Bool, true, false, eqb, ltb, cond, ◌&&◌, Option, Some, None, List, [], ◌∷◌, ◌++◌, inl, inr, ⊎_elim, refl, sym, ap, subst, ◌∙◌, arith, length, take, drop, leb}
use Rattle.std.specs.List.{list_all}
use Rattle.std.specs.Option.{option_map}
use Rattle.std.specs.Result.{IfOk, OnOk, OnErr, result_ok}
use Rattle.std.proofs.lemmas.List.{append-nil, length-append, length-drop, drop-drop}
use Rattle.std.proofs.lemmas.Bool.{cases_Bool, ne_eqb, eq-eqb, cases_eq, lt-ltb, le-ltb}
use Rattle.smux_frames.specs.declared.frame.Cmd.TheVariants as cmds
use Rattle.smux_frames.specs.Spelling.{spelling}
use Rattle.smux_acts.specs.Acts.{Act, Began, Wrote, Shut, called, streams, opened, opened_in, ended, living}
use Rattle.smux_store.specs.declared.stream.Stream.{Stream}
use Rattle.smux_store.specs.declared.answers.Open.TheVariants as opens
use Rattle.smux_streams.specs.declared.answers.Write.TheVariants as writes
use Rattle.smux_streams.specs.Call.{Opens, Writes, Closes, Outs, Holds, IsCall}
use Rattle.smux_streams.specs.History.{Seen, given, left, outbytes}
use Rattle.smux_streams.specs.Legal.{has_room}
use Rattle.smux_store.specs.Streams.{fresh, is_dead, still, stream_with, with_shut}
use Rattle.smux_streams.specs.Stands.{Follows, Forgets, Keeps, MuxState}
use Rattle.smux_store.specs.Kept.{WasPassed, is_above}
use Rattle.smux_store.proofs.KindLemmas.{IsTaken, IsTold, called_in, called_test}
use Rattle.smux_store.proofs.ShowLemmas.{Shows, none_dead, some_found}
use Rattle.smux_store.proofs.ViewLemmas.{begin_streams, one, quiet_streams, view}
use Rattle.smux_streams.proofs.KeepLemmas.{begin_goes, follows, quiet_goes, stays, touch_goes}
use Rattle.smux_store.proofs.ActLemmas.{drop_as_taken, take_fits, shows_by, shut_touches, shut_view, wrote_quiet, began}
use Rattle.smux_streams.proofs.CallLemmas.{room_is, same_begun, same_last}

-- the bytes of a frame that goes out
abbrev pub data_frame : ℕ → List ℕ → List ℕ
data_frame sid bytes = spelling (record { cmd = cmds.Psh; sid = sid; payload = bytes })

pub write_unknown : (m : MuxState) (sid : ℕ) (bytes : List ℕ)
    → IsCall (Writes sid bytes writes.Unknown)
    → stream_with m.streams sid ≡ None
    → Follows m m (Writes sid bytes writes.Unknown)
write_unknown m sid bytes c h = follows m m (Writes sid bytes writes.Unknown) (λ client given s k.
    let d = none_dead sid s.acts (sym (k.found sid) ∙ h) in
    record { call = c; answered = inl (rw d refl); keeps = stays m client given s k })

pub write_closed : (m : MuxState) (sid : ℕ) (bytes : List ℕ) (t : Stream)
    → IsCall (Writes sid bytes writes.Closed)
    → stream_with m.streams sid ≡ Some t
    → t.shut ≡ true
    → Follows m m (Writes sid bytes writes.Closed)
write_closed m sid bytes t c h z = follows m m (Writes sid bytes writes.Closed) (λ client given s k.
    let d = some_found sid s.acts t (sym (k.found sid) ∙ h) in
    let e : ended sid s.acts ≡ true = sym d.shows.shut ∙ z in
    record { call = c; answered = inl (rw (d.live, e) refl); keeps = stays m client given s k })

pub write_full : (m : MuxState) (sid : ℕ) (bytes : List ℕ) (t : Stream)
    → IsCall (Writes sid bytes writes.Full)
    → stream_with m.streams sid ≡ Some t
    → t.shut ≡ false
    → leb (length m.out + (8 + length bytes)) 1048576 ≡ false
    → Follows m m (Writes sid bytes writes.Full)
write_full m sid bytes t c h z l = follows m m (Writes sid bytes writes.Full) (λ client given s k.
    let d = some_found sid s.acts t (sym (k.found sid) ∙ h) in
    let e : ended sid s.acts ≡ false = sym d.shows.shut ∙ z in
    let r = room_is client m given s (8 + length bytes) false k l in
    record { call = c; answered = inl (rw (d.live, e, r) refl); keeps = stays m client given s k })

pub write_done : (m n : MuxState) (sid : ℕ) (bytes : List ℕ) (t : Stream)
    → IsCall (Writes sid bytes writes.Done)
    → stream_with m.streams sid ≡ Some t
    → t.shut ≡ false
    → leb (length m.out + (8 + length bytes)) 1048576 ≡ true
    → n ≡ record m { out = m.out ++ data_frame sid bytes }
    → Follows m n (Writes sid bytes writes.Done)
write_done m n sid bytes t c h z l e =
    follows m n (Writes sid bytes writes.Done) (λ client given s k.
    let d = some_found sid s.acts t (sym (k.found sid) ∙ h) in
    let f : ended sid s.acts ≡ false = sym d.shows.shut ∙ z in
    let r = room_is client m given s (8 + length bytes) true k l in
    let x = Wrote sid bytes in
    let q = wrote_quiet sid bytes in
    record {
      call = c;
      answered = inl (rw (d.live, f, r) refl);
      keeps = rw append-nil (quiet_goes client m n given s s.pending x q k (record {
        client = ap (λ (y : MuxState). y.client) e;
        pending = ap (λ (y : MuxState). y.pending) e ∙ k.pending;
        out = ap (λ (y : MuxState). y.out) e;
        begun = same_begun client m n given s x k (ap (λ (y : MuxState). y.begun) e) refl;
        last = same_last client m n given s x k (ap (λ (y : MuxState). y.last) e) refl;
      }) (ap (λ (y : MuxState). y.streams) e) (ap (λ (y : MuxState). y.living) e)
          (ap (λ (y : MuxState). y.held) e));
    })

pub write_nothing : (m : MuxState) (sid : ℕ) (bytes : List ℕ)
    → IsCall (Writes sid bytes writes.NoMemory)
    → Follows m m (Writes sid bytes writes.NoMemory)
write_nothing m sid bytes c =
    follows m m (Writes sid bytes writes.NoMemory)
    (λ client given s k. record {
      call = c;
      answered = inr refl;
      keeps =
          stays m client given s k;
    })
