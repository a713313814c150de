-- The marks of an end, with one act more.
use Rattle.std.proofs.Common.{◌≡◌, ◌≢◌, ◌↔◌, ℕ, ◌+◌, ◌≤◌, zero, suc, true, Option, Some, None, List, [], ◌∷◌, ◌++◌, ⊎_elim, refl, sym, ap, subst, ◌∙◌, arith, get_or, ltb, slice_get, MatchOption}
use Rattle.std.specs.List.{Contains}
use Rattle.std.proofs.lemmas.Bool.{cases_eq, lt-ltb}
use Rattle.std.proofs.lemmas.List.Elements.{Contains-append_left, Contains-append_right, Contains-push_cases}
use Rattle.resend_queue.specs.declared.answer.Sent.{Sent}
use Rattle.channel_core.specs.declared.message.Outgoing.{Outgoing}
use Rattle.channel_core.specs.Numbers.{has_number}
use Rattle.channel_core.proofs.NumberLemmas.{has_number-last, has_number-other}
use Rattle.session_audit.specs.declared.act.Act.{Act}
use Rattle.session_audit.specs.declared.marks.Mark.{Mark}
use Rattle.session_audit.specs.declared.reading.Saying.{Saying}
use Rattle.session_audit.specs.Looking.{sent_in, sent_with}
use Rattle.session_audit.specs.Marks.{IsMarkOf, IsMarked, IsPlaceOf, MarksState, Notes, PutsMark, Streams, first_place, mark_of}
use Rattle.session_audit.proofs.LookLemmas.{sent_in-push}

-- ---- the list of marks

-- a mark of which nothing is known changes nothing at the end
pub get_or-pad : {X : Type 0} (xs : List X) (d : X) (k : ℕ)
    → get_or (xs ++ d ∷ []) k d ≡ get_or xs k d
get_or-pad [] d zero = refl
get_or-pad [] d (suc k) = refl
get_or-pad (x ∷ xs) d zero = refl
get_or-pad (x ∷ xs) d (suc k) = get_or-pad xs d k

-- ---- a number that an act leaves alone

-- the act gives out no stream message and no acknowledgement with this number, and no opening
pub record LeavesAlone (act : Act) (n : ℕ) : Type 0 where
  pub stream : (m : Sent) → act ≡ Act.Emits (Outgoing.Stream m) → m.seq ≡ n → ⊥
  pub ack : (id : List ℕ) (date : ℕ) → act ≡ Act.Emits (Outgoing.Ack n id date) → ⊥
  pub sent : (l : List ℕ) → has_number (sent_with l act) n ≡ has_number l n

-- the act is the last one
last_act : (acts : List Act) (act : Act) → Contains (acts ++ act ∷ []) act
last_act acts act = Contains-append_right acts (act ∷ []) act (0, omega arith, refl)

-- the place of a number stays
pub place_kept : (sayings : List Saying) (acts : List Act) (act : Act) (n : ℕ) (place : Option ℕ)
    → ((m : Sent) → act ≡ Act.Emits (Outgoing.Stream m) → m.seq ≡ n → ⊥)
    → MatchOption place ((m : Sent) → Streams acts m → m.seq ≡ n → ⊥) (IsPlaceOf sayings acts n)
    → MatchOption place
    ((m : Sent) → Streams (acts ++ act ∷ []) m → m.seq ≡ n → ⊥)
    (IsPlaceOf sayings (acts ++ act ∷ []) n)
place_kept sayings acts act n None refuses none =
    λ m there is.
    ⊎_elim
    (λ (old : Streams acts m). none m old is)
    (λ (new : act ≡ Act.Emits (Outgoing.Stream m)). refuses m new is)
    (Contains-push_cases acts act (Act.Emits (Outgoing.Stream m)) there)
place_kept sayings acts act n (Some k) refuses x =
    (x.0, x.1, x.2, x.3, x.4, Contains-append_left acts (act ∷ []) _ x.5)

-- so does its acknowledgement
pub ack_kept : (acts : List Act) (act : Act) (n : ℕ) (acked : Type 0)
    → ((id : List ℕ) (date : ℕ) → act ≡ Act.Emits (Outgoing.Ack n id date) → ⊥)
    → (acked
    ↔ ((id : List ℕ) × (date : ℕ) × Contains acts (Act.Emits (Outgoing.Ack n id date))))
    → (acked
    ↔ ((id : List ℕ) × (date : ℕ)
    × Contains (acts ++ act ∷ []) (Act.Emits (Outgoing.Ack n id date))))
ack_kept acts act n acked refuses x = (
  λ yes. let found = x.0 yes in (found.0, found.1, Contains-append_left acts (act ∷ []) _ found.2),
  λ found.
      ⊎_elim
      (λ (old : Contains acts (Act.Emits (Outgoing.Ack n found.0 found.1))).
      x.1 (found.0, found.1, old))
      (λ (new : act ≡ Act.Emits (Outgoing.Ack n found.0 found.1)).
      absurd (refuses found.0 found.1 new))
      (Contains-push_cases acts act (Act.Emits (Outgoing.Ack n found.0 found.1)) found.2),
)

pub mark_kept : (sayings : List Saying) (acts : List Act) (act : Act) (before place opened n : ℕ)
    (mark : Mark)
    → LeavesAlone act n
    → before ≤ place
    → IsMarkOf sayings acts before opened n mark
    → IsMarkOf sayings (acts ++ act ∷ []) (place + 1) opened n mark
mark_kept sayings acts act before place opened n mark alone later x =
    let past = x.past in
    record {
      stream = place_kept sayings acts act n mark.place alone.stream x.stream;
      sent = ap (λ (l : List ℕ). has_number l n) (sent_in-push acts act)
          ∙ alone.sent (sent_in acts)
          ∙ x.sent;
      acked = ack_kept acts act n (mark.acked ≡ true) alone.ack x.acked;
      past = omega (arith, past, later);
    }

-- ---- a stream message

place_first : (sayings : List Saying) (acts : List Act) (m : Sent) (saying : Saying) (at : ℕ)
    (place : Option ℕ)
    → slice_get sayings at ≡ Some saying
    → saying.act ≡ Some (Act.Emits (Outgoing.Stream m))
    → MatchOption place
    ((k : Sent) → Streams acts k → k.seq ≡ m.seq → ⊥)
    (IsPlaceOf sayings acts m.seq)
    → (let more = acts ++ Act.Emits (Outgoing.Stream m) ∷ [] in
    MatchOption (first_place place at)
    ((k : Sent) → Streams more k → k.seq ≡ m.seq → ⊥)
    (IsPlaceOf sayings more m.seq))
place_first sayings acts m saying at None there says none =
    (saying, m, there, says, refl, last_act acts (Act.Emits (Outgoing.Stream m)))
place_first sayings acts m saying at (Some k) there says x = (
  x.0,
  x.1,
  x.2,
  x.3,
  x.4,
  Contains-append_left acts (Act.Emits (Outgoing.Stream m) ∷ []) _ x.5,
)

mark_streamed : (sayings : List Saying) (acts : List Act) (before place opened : ℕ) (m : Sent)
    (saying : Saying) (old new : Mark)
    → IsMarked place old new
    → before ≤ place
    → opened ≤ before
    → slice_get sayings place ≡ Some saying
    → saying.act ≡ Some (Act.Emits (Outgoing.Stream m))
    → IsMarkOf sayings acts before opened m.seq old
    → IsMarkOf sayings (acts ++ Act.Emits (Outgoing.Stream m) ∷ []) (place + 1) opened m.seq new
mark_streamed sayings acts before place opened m saying old new is later far there says x =
    let act = Act.Emits (Outgoing.Stream m) in
    let last = is.1 in
    let since : ltb opened new.last ≡ true = lt-ltb opened new.last (omega (arith, last, later, far)) in
    record {
      stream = subst
          (λ (o : Option ℕ). MatchOption o
          ((k : Sent) → Streams (acts ++ act ∷ []) k → k.seq ≡ m.seq → ⊥)
          (IsPlaceOf sayings (acts ++ act ∷ []) m.seq))
          (sym is.0) (place_first sayings acts m saying place old.place there says x.stream);
      sent = ap (λ (l : List ℕ). has_number l m.seq) (sent_in-push acts act)
          ∙ has_number-last (sent_in acts) m.seq
          ∙ sym since;
      acked = ack_kept acts act m.seq (new.acked ≡ true) (λ id date same. cc)
          (subst
          (λ b. (b ≡ true) ↔ ((id : List ℕ) × (date : ℕ)
          × Contains acts (Act.Emits (Outgoing.Ack m.seq id date))))
          (sym is.2) x.acked);
      past = omega (arith, last);
    }

-- an act leaves the other numbers alone
stream_alone : (m : Sent) (n : ℕ) → n ≢ m.seq → LeavesAlone (Act.Emits (Outgoing.Stream m)) n
stream_alone m n apart =
    record {
      stream = λ k same is.
          let e : m ≡ k = cc in apart (sym is ∙ ap (λ (s : Sent). s.seq) (sym e));
      ack = λ id date same. cc;
      sent = λ l. has_number-other l m.seq n apart;
    }

pub notes_stream : (old new : MarksState) (place : ℕ) (m : Sent)
    → PutsMark old new m.seq (IsMarked place (mark_of old m.seq))
    → Notes old new place (Act.Emits (Outgoing.Stream m))
notes_stream old new place m p sayings acts before saying x later there says =
    let act = Act.Emits (Outgoing.Stream m) in
    let far = x.opened in
    let still = p.opened in
    record {
      each = λ n.
          subst
          (λ (o : ℕ). IsMarkOf sayings (acts ++ act ∷ []) (place + 1) o n (mark_of new n))
          (sym still)
          (⊎_elim
          (λ (same : n ≡ m.seq).
          subst
          (λ (k : ℕ). IsMarkOf sayings (acts ++ act ∷ []) (place + 1) old.opened k (mark_of new k))
          (sym same)
          (mark_streamed sayings acts before place old.opened m saying (mark_of old m.seq)
          (mark_of new m.seq) p.put later x.opened there says (x.each m.seq)))
          (λ (apart : n ≡ m.seq → ⊥).
          subst
          (λ (k : Mark). IsMarkOf sayings (acts ++ act ∷ []) (place + 1) old.opened n k)
          (sym (p.kept n apart))
          (mark_kept sayings acts act before place old.opened n (mark_of old n)
          (stream_alone m n apart) later (x.each n)))
          (cases_eq n m.seq));
      opened = omega (arith, far, still, later);
    }

-- ---- an acknowledgement

-- only the acknowledgement of a number is new
abbrev AcksMark : Mark → Mark → Type 0
AcksMark old new = new ≡ record { place = old.place; last = old.last; acked = true }

ack_alone : (n : ℕ) (seq : ℕ) (id : List ℕ) (date : ℕ)
    → n ≢ seq
    → LeavesAlone (Act.Emits (Outgoing.Ack seq id date)) n
ack_alone n seq id date apart =
    record {
      stream = λ k same is. cc;
      ack = λ other_id other_date same.
          let e : seq ≡ n = cc in apart (sym e);
      sent = λ l. refl;
    }

mark_acked : (sayings : List Saying) (acts : List Act) (before place opened seq : ℕ) (id : List ℕ)
    (date : ℕ) (old new : Mark)
    → AcksMark old new
    → before ≤ place
    → IsMarkOf sayings acts before opened seq old
    → IsMarkOf sayings (acts ++ Act.Emits (Outgoing.Ack seq id date) ∷ []) (place + 1) opened seq new
mark_acked sayings acts before place opened seq id date old new is later x =
    let act = Act.Emits (Outgoing.Ack seq id date) in
    let past = x.past in
    subst
    (λ (k : Mark). IsMarkOf sayings (acts ++ act ∷ []) (place + 1) opened seq k)
    (sym is)
    (record {
      stream = place_kept sayings acts act seq old.place (λ m same _. cc) x.stream;
      sent = ap (λ (l : List ℕ). has_number l seq) (sent_in-push acts act) ∙ x.sent;
      acked = (λ _. (id, date, last_act acts act), λ _. refl);
      past = omega (arith, past, later);
    })

pub notes_ack : (old new : MarksState) (place seq : ℕ) (id : List ℕ) (date : ℕ)
    → PutsMark old new seq (AcksMark (mark_of old seq))
    → Notes old new place (Act.Emits (Outgoing.Ack seq id date))
notes_ack old new place seq id date p sayings acts before saying x later there says =
    let act = Act.Emits (Outgoing.Ack seq id date) in
    let far = x.opened in
    let still = p.opened in
    record {
      each = λ n.
          subst
          (λ (o : ℕ). IsMarkOf sayings (acts ++ act ∷ []) (place + 1) o n (mark_of new n))
          (sym still)
          (⊎_elim
          (λ (same : n ≡ seq).
          subst
          (λ (k : ℕ). IsMarkOf sayings (acts ++ act ∷ []) (place + 1) old.opened k (mark_of new k))
          (sym same)
          (mark_acked sayings acts before place old.opened seq id date (mark_of old seq)
          (mark_of new seq) p.put later (x.each seq)))
          (λ (apart : n ≡ seq → ⊥).
          subst
          (λ (k : Mark). IsMarkOf sayings (acts ++ act ∷ []) (place + 1) old.opened n k)
          (sym (p.kept n apart))
          (mark_kept sayings acts act before place old.opened n (mark_of old n)
          (ack_alone n seq id date apart) later (x.each n)))
          (cases_eq n seq));
      opened = omega (arith, far, still, later);
    }
