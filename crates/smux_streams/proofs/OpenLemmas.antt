-- How a Mux goes on to stand for an opening.
use Rattle.std.proofs.Common.{Result, Ok, Err, ◌≡◌, ◌≢◌, ℕ, ◌+◌, ◌-◌, ◌*◌, ◌<◌, ◌≤◌, ◌^◌, Bool, true, false, eqb, ltb, cond, ◌&&◌, Option, Some, None, List, [], ◌∷◌, ◌++◌, inl, inr, ⊎_elim, refl, sym, ap, subst, ◌∙◌, arith, length, take, drop, leb}
use Rattle.std.specs.List.{list_all}
use Rattle.std.specs.Option.{option_map}
use Rattle.std.specs.Result.{IfOk, OnOk, OnErr, result_ok}
use Rattle.std.proofs.lemmas.List.{append-nil, length-append, length-drop, drop-drop}
use Rattle.std.proofs.lemmas.Bool.{cases_Bool, ne_eqb, eq-eqb, cases_eq, lt-ltb, le-ltb}
use Rattle.smux_frames.specs.declared.frame.Cmd.TheVariants as cmds
use Rattle.smux_frames.specs.Spelling.{spelling}
use Rattle.smux_acts.specs.Acts.{Act, Began, Wrote, Shut, called, streams, opened, opened_in, ended, living}
use Rattle.smux_store.specs.declared.stream.Stream.{Stream}
use Rattle.smux_store.specs.declared.answers.Open.TheVariants as opens
use Rattle.smux_streams.specs.declared.answers.Write.TheVariants as writes
use Rattle.smux_streams.specs.Call.{Opens, Writes, Closes, Outs, Holds, IsCall}
use Rattle.smux_streams.specs.History.{Seen, given, left, outbytes}
use Rattle.smux_streams.specs.Legal.{has_room}
use Rattle.smux_store.specs.Streams.{fresh, is_dead, still, stream_with, with_shut}
use Rattle.smux_streams.specs.Stands.{Follows, Forgets, Keeps, MuxState}
use Rattle.smux_store.specs.Kept.{WasPassed, is_above}
use Rattle.smux_store.proofs.KindLemmas.{IsTaken, IsTold, called_in, called_test}
use Rattle.smux_store.proofs.ShowLemmas.{Shows, none_dead, some_found}
use Rattle.smux_store.proofs.ViewLemmas.{begin_streams, one, quiet_streams, view}
use Rattle.smux_streams.proofs.KeepLemmas.{begin_goes, follows, quiet_goes, stays, touch_goes}
use Rattle.smux_store.proofs.ActLemmas.{drop_as_taken, take_fits, shows_by, shut_touches, shut_view, wrote_quiet, began}
use Rattle.smux_streams.proofs.CallLemmas.{room_is, same_last}

-- opening
pub open_answers : (client : Bool) (m : MuxState) (given : List ℕ) (s : Seen)
    → Keeps client m given s
    → m.client ≡ true
    → (client ≡ true) × (m.begun ≡ length (streams s.acts))
open_answers client m given s k e = let r : client ≡ true = sym k.client ∙ e in (r, k.begun r)

pub open_spent : (m : MuxState)
    → m.client ≡ true
    → 2147483647 ≤ m.begun
    → Follows m m (Opens opens.IdsSpent)
open_spent m c l = follows m m (Opens opens.IdsSpent) (λ client given s k.
    let a = open_answers client m given s k c in
    let e : ltb (length (streams s.acts)) 2147483647 ≡ false =
    ap (λ (n : ℕ). ltb n 2147483647) (sym a.1) ∙ le-ltb m.begun 2147483647 l in
    record { call = tt; answered = (a.0, inl (rw e refl)); keeps = stays m client given s k })

pub open_many : (m : MuxState)
    → m.client ≡ true
    → m.begun < 2147483647
    → 1024 ≤ m.living
    → Follows m m (Opens opens.TooMany)
open_many m c l h = follows m m (Opens opens.TooMany) (λ client given s k.
    let a = open_answers client m given s k c in
    let e : ltb (length (streams s.acts)) 2147483647 ≡ true =
    ap (λ (n : ℕ). ltb n 2147483647) (sym a.1) ∙ lt-ltb m.begun 2147483647 l in
    let f : ltb (living s.acts) 1024 ≡ false =
    ap (λ (n : ℕ). ltb n 1024) (sym k.living) ∙ le-ltb m.living 1024 h in
    record { call = tt; answered = (a.0, inl (rw (e, f) refl)); keeps = stays m client given s k })

pub open_full : (m : MuxState)
    → m.client ≡ true
    → m.begun < 2147483647
    → m.living < 1024
    → leb (length m.out + (8 + 0)) 1048576 ≡ false
    → Follows m m (Opens opens.Full)
open_full m c l h r = follows m m (Opens opens.Full) (λ client given s k.
    let a = open_answers client m given s k c in
    let e : ltb (length (streams s.acts)) 2147483647 ≡ true =
    ap (λ (n : ℕ). ltb n 2147483647) (sym a.1) ∙ lt-ltb m.begun 2147483647 l in
    let f : ltb (living s.acts) 1024 ≡ true =
    ap (λ (n : ℕ). ltb n 1024) (sym k.living) ∙ lt-ltb m.living 1024 h in
    let w = room_is client m given s 8 false k r in
    record {
      call = tt;
      answered = (a.0, inl (rw (e, f, w) refl));
      keeps =
          stays m client given s k;
    })

pub open_nothing : (m n : MuxState)
    → m.client ≡ true
    → n ≡ record m { streams = n.streams }
    → ((q : ℕ) → stream_with n.streams q ≡ stream_with m.streams q)
    → Follows m n (Opens opens.NoMemory)
open_nothing m n c e f = follows m n (Opens opens.NoMemory) (λ client given s k.
    let a = open_answers client m given s k c in
    record {
      call = tt;
      answered = (a.0, inr refl);
      keeps =
          rw append-nil (same_keeps client m n given s k e f);
    })
  where
    same_keeps : (client : Bool) (m n : MuxState) (given : List ℕ) (s : Seen)
        → Keeps client m given s
        → n ≡ record m { streams = n.streams }
        → ((q : ℕ) → stream_with n.streams q ≡ stream_with m.streams q)
        → Keeps client n given s
    same_keeps client m n given s k e f = record {
      client = ap (λ (x : MuxState). x.client) e ∙ k.client;
      pending = ap (λ (x : MuxState). x.pending) e ∙ k.pending;
      begun = λ r. ap (λ (x : MuxState). x.begun) e ∙ k.begun r;
      last = λ r q. k.last r q ∙ ap (λ (x : MuxState). is_above x.last q) (sym e);
      within = k.within;
      out = ap (λ (x : MuxState). x.out) e ∙ k.out;
      found = λ q. f q ∙ k.found q;
      living = ap (λ (x : MuxState). x.living) e ∙ k.living;
      held = ap (λ (x : MuxState). x.held) e ∙ k.held;
      orderly = k.orderly;
    }

abbrev pub syn_frame : ℕ → List ℕ
syn_frame sid = spelling (record { cmd = cmds.Syn; sid = sid; payload = [] })

pub open_sid : (m n : MuxState) (sid : ℕ)
    → m.client ≡ true
    → m.begun < 2147483647
    → m.living < 1024
    → leb (length m.out + (8 + 0)) 1048576 ≡ true
    → sid ≡ 2 * m.begun + 3
    → n ≡ record m {
      begun = m.begun + 1;
      out = m.out ++ syn_frame sid;
      streams =
          n.streams;
      living =
          m.living + 1;
    }
    → ((q : ℕ) → stream_with n.streams q
    ≡ cond (eqb q sid) (Some fresh) (stream_with m.streams q))
    → Follows m n (Opens (opens.Sid sid))
open_sid m n sid c l h r i e f = follows m n (Opens (opens.Sid sid)) (λ client given s k.
    let a = open_answers client m given s k c in
    let e' : ltb (length (streams s.acts)) 2147483647 ≡ true =
    ap (λ (n : ℕ). ltb n 2147483647) (sym a.1) ∙ lt-ltb m.begun 2147483647 l in
    let f' : ltb (living s.acts) 1024 ≡ true =
    ap (λ (n : ℕ). ltb n 1024) (sym k.living) ∙ lt-ltb m.living 1024 h in
    let w = room_is client m given s 8 true k r in
    let j : sid ≡ 2 * length (streams s.acts) + 3 = i ∙ ap (λ (n : ℕ). 2 * n + 3) a.1 in
    let x = Began sid in
    let len : length (streams (s.acts ++ x ∷ [])) ≡ length (streams s.acts) + 1 =
    ap length (begin_streams sid x (began sid) s.acts)
    ∙ length-append (streams s.acts) (sid ∷ []) in
    let new : opened sid s.acts ≡ false = ⊎_elim
    (λ (o : opened sid s.acts ≡ true). absurd (let q : WasPassed true s.acts sid =
    subst (λ (b : Bool). WasPassed b s.acts sid) a.0 (k.orderly.passed sid o) in
    omega (arith, q, j)))
    (λ (o : opened sid s.acts ≡ false). o)
    (cases_Bool (opened sid s.acts)) in
    let p : WasPassed true (s.acts ++ x ∷ []) sid = omega (arith, len, j) in
    record {
      call = tt;
      answered = (a.0, inl (rw (e', f', w) (ap opens.Sid j)));
      keeps = rw append-nil
          (begin_goes client m n given s s.pending x sid (began sid) new
          (subst (λ (b : Bool). WasPassed b (s.acts ++ x ∷ []) sid) (sym a.0) p) k (record {
            client = ap (λ (y : MuxState). y.client) e;
            pending = ap (λ (y : MuxState). y.pending) e ∙ k.pending;
            out = ap (λ (y : MuxState). y.out) e;
            begun = λ r. ap (λ (y : MuxState). y.begun) e ∙ ap (λ (n : ℕ). n + 1) a.1 ∙ sym len;
            last = same_last client m n given s x k (ap (λ (y : MuxState). y.last) e) refl;
          }) f (ap (λ (y : MuxState). y.living) e) (ap (λ (y : MuxState). y.held) e));
    })
