-- What a first message names.
use Rattle.std.proofs.Common.{◌≡◌, ℕ, ◌<◌, ◌≤◌, Bool, true, false, cond, inl, inr, ◌⊎◌, ⊎_elim, Option, Some, None, Result, Ok, Err, IfSome, List, [], ◌∷◌, length, refl, sym, ap, subst, ◌∙◌, arith}
use Rattle.chan_io.specs.declared.failed.IoFault.{IoFault}
use Rattle.chan_io.specs.declared.got.Got.{Got}
use Rattle.json_bodies.specs.Opening.{IsOpeningBody}
use Rattle.json_bodies.specs.Reading.{IsReading}
use Rattle.json_bodies.specs.declared.opening.Opening.{Opening}
use Rattle.json_members.specs.Members.{UnlessNoMemory}
use Rattle.json_members.specs.declared.body_fault.BodyFault.{BodyFault}
use Rattle.session_register.specs.Tokens.{number_at}
use Rattle.session_register.specs.TokenTexts.{IsTextOf}
use Rattle.session_register.specs.declared.answer.Open.{Open}
use Rattle.session_register.specs.declared.token_value.TokenValue.{TokenValue}
use Rattle.relay_desk.specs.Admissions.{Admission, MayAdmit, MayAsk, admission_calls, asks, declines, starves, undrawn}
use Rattle.session_run.proofs.AddsLemmas.{AddsCalls-then}
use Rattle.session_run.specs.Adds.{AddsCalls}
use Rattle.turn_lock.specs.declared.seat.Seat.{Seat}
use Rattle.turn_lock.specs.declared.value.Turn.{Ghosts}
use Rattle.relay_desk.specs.declared.desk_call.DeskAnswer.{DeskAnswer}
use Rattle.relay_desk.specs.declared.desk_call.DeskCall.{DeskCall}
use Rattle.relay_desk.specs.Openings.{IsOpening, Judges, Names, NamesValue, is_named}

module _ (text : List ℕ) (IsShown : BodyFault → Type 0) where
  -- the text is an opening, whose token is a value or not
  pub names-read : (opening : Opening) (token : List ℕ) (found : Option TokenValue)
      → IsReading (IsOpeningBody text) IsShown (Ok opening)
      → token ≡ opening.token
      → IfSome found (λ v. IsTextOf v token)
      → ((v : TokenValue) → IsTextOf v token → found ≡ Some v)
      → Names text found
  names-read opening token found reading same value all = (is found value, only)
    where
      is : (found : Option TokenValue) → IfSome found (λ v. IsTextOf v token)
          → IfSome found (NamesValue text)
      is None value = tt
      is (Some v) value =
          record {
            opening = opening;
            body = reading.ok;
            token = subst (IsTextOf v) same value;
          }

      one : (a b : Opening) → UnlessNoMemory (Ok a) (Ok b) → a ≡ b
      one a b (inl eq) = cc
      one a b (inr never) = cc

      only : (v : TokenValue) → NamesValue text v → found ≡ Some v
      only v named =
          let other : opening ≡ named.opening =
          one opening named.opening (reading.body named.opening named.body) in
          all v
          (subst (IsTextOf v) (sym (same ∙ ap (λ (o : Opening). o.token) other)) named.token)

  -- the text is none
  pub names-none : (fault : BodyFault)
      → IsReading (IsOpeningBody text) IsShown (Err fault)
      → (fault ≡ BodyFault.NoMemory → ⊥)
      → Names text None
  names-none fault reading other =
      (tt, λ v named. absurd (unread named.opening (reading.body named.opening named.body)))
    where
      unread : (o : Opening) → UnlessNoMemory (Err fault) (Ok o) → ⊥
      unread o (inl never) = cc
      unread o (inr is) = let same : fault ≡ BodyFault.NoMemory = cc in other same

-- ---- the whole message

some-one : (a b : TokenValue) → Some a ≡ Some b → a ≡ b
some-one a b eq = cc

-- a text of an opening with this value, by whether its session is among these
pub judges-if : (names : List (List ℕ)) (text : List ℕ) (value : TokenValue) (b : Bool)
    → length text ≤ 4096
    → Names text (Some value)
    → is_named names value.session ≡ b
    → Judges (Got.Text text) names (cond b (Some value) None)
judges-if names text value true short named test = ((short, named.0), test)
judges-if names text value false short named test = λ other opens.
    ap (λ (v : TokenValue). is_named names v.session)
    (sym (some-one value other (named.1 other opens.1)))
    ∙ test

-- a longer one
pub judges-long : (names : List (List ℕ)) (text : List ℕ) → 4096 < length text
    → Judges (Got.Text text) names None
judges-long names text long = λ other opens.
    let short = opens.0 in absurd (omega (arith, short, long))

-- one that is no opening
pub judges-none : (names : List (List ℕ)) (text : List ℕ) → Names text None
    → Judges (Got.Text text) names None
judges-none names text none = λ other opens.
    let never = none.1 other opens.1 in absurd (cc)

-- a message that is no text
pub judges-other : (first : Got) (names : List (List ℕ))
    → ((value : TokenValue) → IsOpening first value → ⊥)
    → Judges first names None
judges-other first names none = λ value opens. absurd (none value opens)

-- what may be made for a value may be made for a message that is an opening with it
pub may-ask : (first : Got) (names : List (List ℕ)) (value : TokenValue) (admission : Admission)
    → Judges first names (Some value)
    → MayAsk value admission
    → MayAdmit first names admission
may-ask first names value starves judged never = absurd never
may-ask first names value declines judged never = absurd never
may-ask first names value (undrawn fault) judged may = (value, judged.0, judged.1)
may-ask first names value (asks asked drawn answer) judged may =
    subst (λ v. Judges first names (Some v)) (sym may) judged

-- the calls of an admission that asks the register, by the drawn number and the answer
module _ {V T : Type 0} {g : Ghosts V DeskCall DeskAnswer T} where
  pub asking : (a b c : Seat V DeskCall DeskAnswer T g) (value : TokenValue) (drawn : List ℕ)
      (fresh : ℕ) (got answer : Result Open IoFault)
      → AddsCalls a ((DeskCall.Draw, DeskAnswer.Draw (Ok drawn)) ∷ []) b
      → fresh ≡ number_at 0 drawn
      → got ≡ answer
      → AddsCalls b
      ((DeskCall.Open value.session value.role value.token fresh, DeskAnswer.Open got) ∷ []) c
      → AddsCalls a (admission_calls (asks value drawn answer)) c
  asking a b c value drawn fresh got answer first number is then =
      AddsCalls-then a b c _ _ first
      (subst
      (λ n. AddsCalls b
      ((DeskCall.Open value.session value.role value.token n, DeskAnswer.Open answer) ∷ []) c)
      number
      (subst
      (λ r. AddsCalls b
      ((DeskCall.Open value.session value.role value.token fresh, DeskAnswer.Open r) ∷ []) c) is
      then))
