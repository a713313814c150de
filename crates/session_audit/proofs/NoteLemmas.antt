-- The marks of an end, with an act that is no message.
use Rattle.std.proofs.Common.{◌≡◌, ℕ, ◌+◌, ◌≤◌, true, false, List, [], refl, sym, ap, ◌∙◌, arith, ltb}
use Rattle.std.specs.List.{Contains}
use Rattle.std.proofs.lemmas.Bool.{false_from_ne_true, ltb-true}
use Rattle.channel_core.specs.declared.message.Outgoing.{Outgoing}
use Rattle.channel_core.specs.Numbers.{has_number}
use Rattle.session_audit.specs.declared.act.Act.{Act}
use Rattle.session_audit.specs.declared.reading.Saying.{Saying}
use Rattle.session_audit.specs.Looking.{sent_with}
use Rattle.session_audit.specs.Marks.{AreMarks, MarksState, Notes, mark_of, no_marks}
use Rattle.session_audit.proofs.LookLemmas.{sent_in-nil, sent_in-push}
use Rattle.session_audit.proofs.MarkLemmas.{ack_kept, mark_kept, place_kept}

-- ---- all else

-- an opening: nothing was sent since
pub notes_opens : (old : MarksState) (place : ℕ)
    → Notes old (record old { opened = place + 1 }) place Act.Opens
notes_opens old place sayings acts before saying x later there says =
    record {
      each = λ n.
          let each = x.each n in
          let past = each.past in
          let since : ltb (place + 1) (mark_of old n).last ≡ false
          = not_below (place + 1) (mark_of old n).last (omega (arith, past, later)) in
          record {
            stream = place_kept sayings acts Act.Opens n (mark_of old n).place (λ m same _. cc) each.stream;
            sent = ap (λ (l : List ℕ). has_number l n) (sent_in-push acts Act.Opens) ∙ sym since;
            acked = ack_kept acts Act.Opens n ((mark_of old n).acked ≡ true) (λ id date same. cc) each.acked;
            past = omega (arith, past, later);
          };
      opened = omega arith;
    }
  where
    not_below : (a b : ℕ) → b ≤ a → ltb a b ≡ false
    not_below a b le = false_from_ne_true (ltb a b) (λ is. let less = ltb-true a b is in omega (arith, less, le))

-- any other act changes nothing
pub notes_nothing : (old : MarksState) (place : ℕ) (act : Act)
    → ((out : Outgoing) → act ≡ Act.Emits out → ⊥)
    → (act ≡ Act.Opens → ⊥)
    → Notes old old place act
notes_nothing old place act no_out no_open sayings acts before saying x later there says =
    let far = x.opened in
    record {
      each = λ n.
          mark_kept sayings acts act before place old.opened n (mark_of old n)
          (record {
            stream = λ m same _. no_out (Outgoing.Stream m) same;
            ack = λ id date same. no_out (Outgoing.Ack n id date) same;
            sent = λ l. ap (λ (k : List ℕ). has_number k n) (still act no_out no_open l);
          }) later (x.each n);
      opened = omega (arith, far, later);
    }
  where
    still : (act : Act)
        → ((out : Outgoing) → act ≡ Act.Emits out → ⊥)
        → (act ≡ Act.Opens → ⊥)
        → (l : List ℕ)
        → sent_with l act ≡ l
    still (Act.Emits out) no_out no_open l = absurd (no_out out refl)
    still Act.Opens no_out no_open l = absurd (no_open refl)
    still (Act.Hears incoming) no_out no_open l = refl
    still Act.Loses no_out no_open l = refl
    still Act.Closes no_out no_open l = refl

-- nothing is known of an end that did nothing
pub nothing_marked : (sayings : List Saying) → AreMarks no_marks sayings [] 0
nothing_marked sayings =
    record {
      each = λ n. record {
        stream = λ m there is. none (Act.Emits (Outgoing.Stream m)) there;
        sent = ap (λ (l : List ℕ). has_number l n) sent_in-nil;
        acked = (λ is. cc, λ found. absurd (none (Act.Emits (Outgoing.Ack n found.0 found.1)) found.2));
        past = omega arith;
      };
      opened = omega arith;
    }
  where
    none : (act : Act) → Contains [] act → ⊥
    none act there = let below = there.1 in omega (arith, below)
