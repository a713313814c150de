-- One turn more of a writing worker.
use Rattle.std.proofs.Common.{◌≡◌, ℕ, ◌≤◌, true, false, Option, Some, None, Result, Ok, Err, List, [], ◌∷◌, ◌++◌, length, refl, sym, ap, subst, ◌∙◌, append-nil, arith}
use Rattle.std.specs.List.{All, cons_option}
use Rattle.std.specs.Option.{IfSome}
use Rattle.std.proofs.lemmas.List.Elements.{All-nil, All-push, filter_map-append}
use Rattle.chan_io.specs.Faults.{IfFailed, Rises, UnlessFailed}
use Rattle.chan_io.specs.declared.failed.IoFault.{IoFault}
use Rattle.relay_switch.specs.Sends.{EndsSend}
use Rattle.chan_io.specs.LinksOut.{Departures, Sends, Shuts, unsent}
use Rattle.chan_io.specs.declared.got.Got.{Got}
use Rattle.relay_core.specs.declared.action.Action.{Action}
use Rattle.relay_switch.specs.declared.outlet.Turned.{Turned}
use Rattle.relay_switch.specs.declared.switch_call.SwitchCall.{SwitchCall}
use Rattle.relay_switch.specs.declared.switch_call.SwitchAnswer.{SwitchAnswer}
use Rattle.relay_switch.specs.Outlets.{EndsTurn, IsOutlet, IsOver, SwitchEntry, is_last, message_in, messages_taken}

messages_taken-push : (mine : List SwitchEntry) (e : SwitchEntry)
    → messages_taken (mine ++ e ∷ []) ≡ messages_taken mine ++ cons_option (message_in e.answer) []
unfolding messages_taken
messages_taken-push mine e =
    filter_map-append (λ (x : SwitchEntry). message_in x.answer) mine (e ∷ [])

-- a drop is no message, nor is the end
no-message : (answer : SwitchAnswer) → IsOver answer → message_in answer ≡ None
no-message SwitchAnswer.Done over = refl
no-message SwitchAnswer.NoMemory over = refl
no-message (SwitchAnswer.Next (Action.Text conn text)) over = absurd over
no-message (SwitchAnswer.Next (Action.Send conn bytes)) over = absurd over
no-message (SwitchAnswer.Next (Action.Drop conn)) over = refl
no-message SwitchAnswer.Nothing over = refl
no-message SwitchAnswer.Over over = refl

-- the messages sent and one that may be missing are those that the takes were answered
abbrev Sent : Option Departures → List Got → List SwitchEntry → Type 0
Sent told missing mine = IfSome told (λ t. t.sent ++ missing ≡ messages_taken mine)

one-long : (p : Option Got) → length (cons_option p []) ≤ 1
one-long None = omega arith
one-long (Some m) = omega arith

module _ (conn : ℕ) (mine : List SwitchEntry) (e : SwitchEntry) where
  -- nothing more was sent than before
  sent-still : (told after : Option Departures)
      → (told ≡ None → after ≡ None)
      → ((t a : Departures) → told ≡ Some t → after ≡ Some a → a.sent ≡ t.sent)
      → Sent told [] mine
      → Sent after (cons_option (message_in e.answer) []) (mine ++ e ∷ [])
  sent-still None None none same sent = tt
  sent-still None (Some a) none same sent = let no = none refl in cc
  sent-still (Some t) None none same sent = tt
  sent-still (Some t) (Some a) none same sent =
      ap (λ l. l ++ cons_option (message_in e.answer) [])
      (same t a refl refl ∙ sym (append-nil t.sent) ∙ sent)
      ∙ sym (messages_taken-push mine e)

  -- the message of the answer was sent
  sent-more : (told after : Option Departures) (message : Got) → message_in e.answer ≡ Some message
      → Sends message (Ok tt) told after
      → Sent told [] mine
      → Sent after [] (mine ++ e ∷ [])
  sent-more None after message is sends sent =
      subst (λ a. Sent a [] (mine ++ e ∷ [])) (sym sends) tt
  sent-more (Some t) after message is sends sent =
      subst (λ a. Sent a [] (mine ++ e ∷ [])) (sym sends)
      (append-nil (t.sent ++ message ∷ [])
      ∙ ap (λ l. l ++ message ∷ []) (sym (append-nil t.sent) ∙ sent)
      ∙ ap (λ p. messages_taken mine ++ cons_option p []) (sym is)
      ∙ sym (messages_taken-push mine e))

  shut-none : (told after : Option Departures) → Shuts told after → told ≡ None → after ≡ None
  shut-none None after shuts is = shuts
  shut-none (Some t) after shuts is = cc

  shut-same : (told after : Option Departures) → Shuts told after → (t a : Departures)
      → told ≡ Some t → after ≡ Some a → a.sent ≡ t.sent
  shut-same None after shuts t a told_is after_is = cc
  shut-same (Some u) after shuts t a told_is after_is =
      ap (λ (o : Option Departures). sent_of o) (sym after_is ∙ shuts)
      ∙ ap (λ (o : Option Departures). sent_of o) told_is
    where
      sent_of : Option Departures → List Got
      sent_of None = []
      sent_of (Some d) = d.sent

  taken : All (λ x. x.call ≡ SwitchCall.Take conn) mine → e.call ≡ SwitchCall.Take conn
      → All (λ x. x.call ≡ SwitchCall.Take conn) (mine ++ e ∷ [])
  taken all is = All-push (λ (x : SwitchEntry). x.call ≡ SwitchCall.Take conn) mine e all is

  -- so far each was sent
  all-sent : (told : Option Departures) → IsOutlet conn false told mine → Sent told [] mine
  all-sent told kept =
      subst (λ missing. Sent told missing mine) (kept.none_missing refl) kept.sent

  -- the message of the answer may be missing, and the turn is the last
  lost : (told after : Option Departures) → IsOutlet conn false told mine
      → e.call ≡ SwitchCall.Take conn
      → Shuts told after
      → IsOutlet conn true after (mine ++ e ∷ [])
  lost told after kept is shuts =
      record {
        takes = taken kept.takes is;
        missing = cons_option (message_in e.answer) [];
        one_missing = one-long (message_in e.answer);
        none_missing = λ h. cc;
        sent =
            sent-still told after (shut-none told after shuts) (shut-same told after shuts)
            (all-sent told kept);
      }

  -- one turn more
  pub outlet-after : (told after : Option Departures) (turned : Turned) (was now : ℕ)
      → IsOutlet conn false told mine
      → e.call ≡ SwitchCall.Take conn
      → EndsTurn turned e.answer told after was now
      → IsOutlet conn (is_last turned) after (mine ++ e ∷ [])
  outlet-after told after Turned.Sent was now kept is ends =
      record {
        takes = taken kept.takes is;
        missing = [];
        one_missing = omega arith;
        none_missing = λ h. refl;
        sent = sent-more told after ends.0 ends.1 ends.2 (all-sent told kept);
      }
  outlet-after told after Turned.Idle was now kept is ends =
      let none : message_in e.answer ≡ None = ap message_in ends.0 in
      record {
        takes = taken kept.takes is;
        missing = [];
        one_missing = omega arith;
        none_missing = λ h. refl;
        sent =
            subst (λ (p : Option Got). Sent after (cons_option p []) (mine ++ e ∷ [])) none
            (sent-still told after (λ n. ends.1 ∙ n)
            (λ t a told_is after_is.
            ap (λ (d : Departures). d.sent)
            (some-one a t (sym after_is ∙ ends.1 ∙ told_is)))
            (all-sent told kept));
      }
    where
      some-one : (a t : Departures) → Some a ≡ Some t → a ≡ t
      some-one a t same = cc
  outlet-after told after Turned.Over was now kept is ends = lost told after kept is ends.1
  outlet-after told after Turned.Failed was now kept is ends = lost told after kept is ends.2
  outlet-after told after Turned.NoMemory was now kept is ends = lost told after kept is ends.2

-- before the first turn
pub outlet-new : (conn : ℕ) (told : Option Departures) (mine : List SwitchEntry)
    → IfSome told (λ d. d ≡ unsent)
    → mine ≡ []
    → ∥ IsOutlet conn false told mine ∥₁
unfolding messages_taken
outlet-new conn told mine fresh none =
    ∣ subst (IsOutlet conn false told) (sym none)
    (record {
      takes = All-nil (λ (x : SwitchEntry). x.call ≡ SwitchCall.Take conn);
      missing = [];
      one_missing = omega arith;
      none_missing = λ h. refl;
      sent = nothing told fresh;
    }) ∣₁
  where
    nothing : (told : Option Departures) → IfSome told (λ d. d ≡ unsent) → Sent told [] []
    nothing None fresh = tt
    nothing (Some d) fresh = ap (λ (x : Departures). x.sent ++ []) fresh

-- ---- a send

-- a send that was not made adds nothing
unsent-same : (message : Got) (fault : IoFault) (before mid : Option Departures)
    → Sends message (Err fault) before mid
    → mid ≡ before
unsent-same message fault None mid sends = sends
unsent-same message fault (Some b) mid sends =
    sends ∙ ap (λ s. Some (record b { sent = s })) (append-nil b.sent)

-- a turn whose take was answered a message, by what the send of it was answered
pub sent-turn : (answer : SwitchAnswer) (message : Got) (r : Result Unit IoFault)
    (turned : Turned) (before mid after : Option Departures) (was sent now : ℕ)
    → message_in answer ≡ Some message
    → Sends message r before mid
    → IfFailed r (Rises was sent)
    → UnlessFailed r (sent ≡ was)
    → EndsSend r turned mid after
    → now ≡ sent
    → EndsTurn turned answer before after was now
sent-turn answer message (Ok done) turned before mid after was sent now is sends failed steady ends same =
    subst (λ t. EndsTurn t answer before after was now) (sym ends.0)
    (message, is, subst (Sends message (Ok tt) before) (sym ends.1) sends, same ∙ steady)
sent-turn answer message (Err IoFault.Failed) turned before mid after was sent now is sends failed steady ends same =
    subst (λ t. EndsTurn t answer before after was now) (sym ends.0) (
      message,
      is,
      subst (λ m. Shuts m after) (unsent-same message IoFault.Failed before mid sends) ends.1,
      subst (Rises was) (sym same) failed,
    )
sent-turn answer message (Err IoFault.NoMemory) turned before mid after was sent now is sends failed steady ends same =
    subst (λ t. EndsTurn t answer before after was now) (sym ends.0) (
      message,
      is,
      subst (λ m. Shuts m after) (unsent-same message IoFault.NoMemory before mid sends) ends.1,
      same ∙ steady,
    )
