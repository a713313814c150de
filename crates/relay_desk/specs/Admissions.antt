-- How a connection is let in: what was asked for its first message, and what that is answered.
use Rattle.std.specs.Prelude.{◌≡◌, ◌⊎◌, ℕ, true, false, Some, None, Result, Ok, Err, List, [], ◌∷◌}
use Rattle.chan_io.specs.declared.failed.Failed.{Failed}
use Rattle.chan_io.specs.declared.failed.IoFault.{IoFault}
use Rattle.chan_io.specs.declared.got.Got.{Got}
use Rattle.session_register.specs.Tokens.{number_at}
use Rattle.session_register.specs.declared.answer.Open.{Open}
use Rattle.session_register.specs.declared.token_value.TokenValue.{TokenValue}
use Rattle.relay_desk.specs.declared.admission.Admit.{Admit}
use Rattle.relay_desk.specs.declared.desk_call.DeskCall.{DeskCall}
use Rattle.relay_desk.specs.declared.desk_call.DeskAnswer.{DeskAnswer}
use Rattle.relay_desk.specs.Desks.{DeskStep}
use Rattle.relay_desk.specs.Openings.{IsOpening, Judges, accepting, is_named}

-- one admission
pub data Admission : Type 0 where
  -- memory was wanted before the desk was asked
  starves : Admission
  -- the message is no opening of one of the sessions, and the desk was not asked
  declines : Admission
  -- the draw failed
  undrawn : Failed → Admission
  -- with this value and this draw the register was asked, and answered so
  asks : TokenValue → List ℕ → Result Open IoFault → Admission

-- its calls of the desk
abbrev pub admission_calls : Admission → List DeskStep
admission_calls starves = []
admission_calls declines = []
admission_calls (undrawn fault) = (DeskCall.Draw, DeskAnswer.Draw (Err fault)) ∷ []
admission_calls (asks value drawn answer) =
    (DeskCall.Draw, DeskAnswer.Draw (Ok drawn))
    ∷ (DeskCall.Open value.session value.role value.token (number_at 0 drawn), DeskAnswer.Open answer)
    ∷ []

-- the message is one for which it may be made
abbrev pub MayAdmit : Got → List (List ℕ) → Admission → Type 0
MayAdmit first names starves = Unit {0}
MayAdmit first names declines = Judges first names None
MayAdmit first names (undrawn fault) =
    (value : TokenValue) × IsOpening first value × (is_named names value.session ≡ true)
MayAdmit first names (asks value drawn answer) =
    IsOpening first value × (is_named names value.session ≡ true)

-- it is one that may be made for this value
abbrev pub MayAsk : TokenValue → Admission → Type 0
MayAsk value starves = ⊥
MayAsk value declines = ⊥
MayAsk value (undrawn fault) = Unit {0}
MayAsk value (asks asked drawn answer) = asked ≡ value

-- what the register's answer comes to; at an opening that it accepts, memory may be wanted for the reply
abbrev pub AnswersOpen : TokenValue → Open → Admit → Type 0
AnswersOpen value (Open.Successor token) admit =
    (admit ≡ Admit.Accepted value.session value.role (accepting token))
    ⊎ (admit ≡ Admit.NoMemory)
AnswersOpen value (Open.Same token) admit =
    (admit ≡ Admit.Accepted value.session value.role (accepting token))
    ⊎ (admit ≡ Admit.NoMemory)
AnswersOpen value Open.Ended admit = admit ≡ Admit.Refused true
AnswersOpen value Open.NoSession admit = admit ≡ Admit.Refused false
AnswersOpen value Open.BadToken admit = admit ≡ Admit.Refused false
AnswersOpen value Open.Spent admit = admit ≡ Admit.Refused false

-- what it is answered
abbrev pub Answers : Admission → Admit → Type 0
Answers starves admit = admit ≡ Admit.NoMemory
Answers declines admit = admit ≡ Admit.Refused false
Answers (undrawn fault) admit = admit ≡ Admit.Entropy
Answers (asks value drawn (Ok answer)) admit = AnswersOpen value answer admit
Answers (asks value drawn (Err IoFault.Failed)) admit = admit ≡ Admit.Store
Answers (asks value drawn (Err IoFault.NoMemory)) admit = admit ≡ Admit.NoMemory
