-- An end that no entry closed tells nobody that it is closed.
use Rattle.std.proofs.Common.{◌≡◌, ℕ, Bool, true, false, cond, List, [], ◌∷◌, ◌++◌, refl, sym, ap, ◌∙◌, append_assoc}
use Rattle.std.specs.Prelude.{◌||◌}
use Rattle.std.specs.List.{All, list_any}
use Rattle.std.proofs.lemmas.List.Elements.{All-head, All-tail}
use Rattle.std.proofs.lemmas.List.Folds.{list_any-append}
use Rattle.channel_core.specs.declared.answer.Heard.{Heard}
use Rattle.channel_core.specs.declared.call.EndAnswer.{EndAnswer}
use Rattle.channel_core.specs.declared.call.EndCall.{EndCall}
use Rattle.channel_core.specs.declared.message.Incoming.{Incoming}
use Rattle.channel_core.specs.Call.{Entry, earlier_from, with_earlier}
use Rattle.channel_core.specs.History.{closes, is_closed}
use Rattle.channel_core.specs.Legal.{IsAnswered, IsLegal, answer_to_heard, answer_to_incoming, look_at}
use Rattle.channel_core.proofs.LegalLemmas.{ack_cases, answered_cases, stream_cases}
use Rattle.session_end.proofs.HistoryLemmas.{none_or, or_none}

-- whether this answer tells that the end is closed
abbrev pub tells_closed : EndAnswer → Bool
tells_closed (EndAnswer.Heard Heard.AfterClose) = true
tells_closed (EndAnswer.Look look) = look.closed
tells_closed answer = false

incoming_tells : (w : ℕ) (h : List Entry) (incoming : Incoming)
    → tells_closed (EndAnswer.Heard (answer_to_incoming w h incoming)) ≡ false
incoming_tells w h (Incoming.Stream n id item last) =
    stream_cases w h n item last (λ (x : Heard). tells_closed (EndAnswer.Heard x) ≡ false)
    (λ _. refl) (λ _. refl) (λ _ _ _. refl) (λ _ _. refl) (λ _ _. refl)
incoming_tells w h (Incoming.Ack n) =
    ack_cases h n (λ (x : Heard). tells_closed (EndAnswer.Heard x) ≡ false) (λ _ _. refl) refl
incoming_tells w h Incoming.Pause = refl
incoming_tells w h Incoming.Start = refl
incoming_tells w h (Incoming.Closing output) = refl

heard_tells : (w : ℕ) (h : List Entry) (incoming : Incoming) → is_closed h ≡ false
    → tells_closed (EndAnswer.Heard (answer_to_heard w h incoming)) ≡ false
heard_tells w h incoming unclosed =
    ap
    (λ (b : Bool).
    tells_closed (EndAnswer.Heard (cond b Heard.AfterClose (answer_to_incoming w h incoming))))
    unclosed
    ∙ incoming_tells w h incoming

look_tells : (w : ℕ) (h : List Entry) → tells_closed (EndAnswer.Look (look_at w h)) ≡ is_closed h
unfolding look_at
look_tells w h = refl

answer_tells : (w : ℕ) (h : List Entry) (call : EndCall) (answer : EndAnswer)
    → IsAnswered w h call answer
    → is_closed h ≡ false
    → tells_closed answer ≡ false
answer_tells w h (EndCall.Put item id now) answer answered unclosed =
    answered_cases w h (EndCall.Put item id now) answer answered
    (λ is. ap tells_closed is) (λ never. absurd never)
answer_tells w h (EndCall.PutLast item id now) answer answered unclosed =
    answered_cases w h (EndCall.PutLast item id now) answer answered
    (λ is. ap tells_closed is) (λ never. absurd never)
answer_tells w h (EndCall.Heard now incoming) answer answered unclosed =
    answered_cases w h (EndCall.Heard now incoming) answer answered
    (λ is. ap tells_closed is ∙ heard_tells w h incoming unclosed) (λ is. ap tells_closed is)
answer_tells w h (EndCall.Tick now) answer answered unclosed =
    answered_cases w h (EndCall.Tick now) answer answered
    (λ is. ap tells_closed is) (λ never. absurd never)
answer_tells w h (EndCall.Pull now) answer answered unclosed =
    answered_cases w h (EndCall.Pull now) answer answered
    (λ is. ap tells_closed is) (λ is. ap tells_closed is)
answer_tells w h EndCall.Lost answer answered unclosed =
    answered_cases w h EndCall.Lost answer answered
    (λ is. ap tells_closed is) (λ never. absurd never)
answer_tells w h (EndCall.Opened now) answer answered unclosed =
    answered_cases w h (EndCall.Opened now) answer answered
    (λ is. ap tells_closed is) (λ never. absurd never)
answer_tells w h EndCall.Close answer answered unclosed =
    answered_cases w h EndCall.Close answer answered
    (λ is. ap tells_closed is) (λ never. absurd never)
answer_tells w h EndCall.Look answer answered unclosed =
    answered_cases w h EndCall.Look answer answered
    (λ is. ap tells_closed is ∙ look_tells w h ∙ unclosed) (λ never. absurd never)

is_closed-append : (h k : List Entry)
    → is_closed (h ++ k) ≡ (is_closed h || list_any (λ e. closes e.answer e.call) k)
unfolding is_closed
is_closed-append h k = list_any-append (λ (e : Entry). closes e.answer e.call) h k

abbrev Fits : ℕ → List Entry × Entry → Type 0
Fits w p = IsAnswered w p.0 p.1.call p.1.answer

from : (w : ℕ) (before h : List Entry) → All (Fits w) (earlier_from before h)
    → is_closed (before ++ h) ≡ false
    → list_any (λ e. tells_closed e.answer) h ≡ false
from w before [] all unclosed = refl
from w before (e ∷ h) all unclosed =
    let here =
    none_or (is_closed before) (list_any (λ (x : Entry). closes x.answer x.call) (e ∷ h))
    (sym (is_closed-append before (e ∷ h)) ∙ unclosed) in
    or_none (tells_closed e.answer) (list_any (λ (x : Entry). tells_closed x.answer) h)
    (answer_tells w before e.call e.answer
    (All-head (Fits w) (before, e) (earlier_from (before ++ e ∷ []) h) all) here.0)
    (from w (before ++ e ∷ []) h
    (All-tail (Fits w) (before, e) (earlier_from (before ++ e ∷ []) h) all)
    (ap is_closed (append_assoc before (e ∷ []) h) ∙ unclosed))

-- so it is of a legal history that nothing closed
pub none_tells : (w : ℕ) (h : List Entry) → IsLegal w h → is_closed h ≡ false
    → list_any (λ e. tells_closed e.answer) h ≡ false
unfolding IsLegal with_earlier
none_tells w h legal unclosed = from w [] h legal unclosed
