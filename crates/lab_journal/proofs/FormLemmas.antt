-- The records of what is seen have no fault of form.
use Rattle.std.proofs.Common.{◌≡◌, ℕ, ◌+◌, ◌<◌, ◌≤◌, Ok, Err, List, [], ◌∷◌, length, ⊎_elim, refl, sym, ap, arith}
use Rattle.chan_values.specs.declared.side.Side.{Side}
use Rattle.chan_values.specs.Sides.{other}
use Rattle.agent_message.specs.Decoding.{Decodes}
use Rattle.agent_message.specs.declared.message.Message.{Message}
use Rattle.agent_message.specs.declared.refusal.Refusal.{Refusal}
use Rattle.agent_message.proofs.PieceLemmas.{sound_is_short}
use Rattle.channel_core.specs.Arrival.{Arrives, Hears}
use Rattle.channel_core.specs.declared.message.Incoming.{Incoming}
use Rattle.channel_core.specs.declared.wire.InRefusal.{InRefusal}
use Rattle.session_audit.specs.Journal.{IsFormed, letter}
use Rattle.session_audit.proofs.AnswerLemmas.{Arrives-one}
use Rattle.session_audit.proofs.RecordLemmas.{faultless}

-- what is heard is no longer than a message
short : (side : Side) (bytes : List ℕ) (incoming : Incoming)
    → Arrives side bytes (Ok incoming)
    → length bytes ≤ 65656
short side bytes incoming arrives =
    ⊎_elim
    (λ (it : (m : Message) × Decodes bytes (Ok m) × Hears side m (Ok incoming)).
    sound_is_short it.0 bytes it.1)
    (λ (it : (refusal : Refusal) × Decodes bytes (Err refusal)
    × (Ok incoming ≡ Err (InRefusal.Message refusal))).
    let is = it.2 in absurd (cc is))
    arrives

-- and is not refused
not_refused : (side : Side) (bytes : List ℕ) (incoming : Incoming) (e : InRefusal)
    → Arrives side bytes (Ok incoming)
    → Arrives side bytes (Err e)
    → ⊥
not_refused side bytes incoming e arrives refused =
    let is = Arrives-one side bytes (Ok incoming) (Err e) arrives refused in absurd (cc is)

-- a message that is given out
pub formed_emission : (side : Side) (bytes : List ℕ) (incoming : Incoming)
    → Arrives (other side) bytes (Ok incoming)
    → IsFormed (letter side ∷ 0 ∷ bytes)
formed_emission side bytes incoming arrives =
    let most = short (other side) bytes incoming arrives in
    record {
      size = (omega arith, omega (arith, most));
      faultless = faultless side 0 bytes (omega arith) (λ two. absurd (omega (arith, two)))
          (λ e _ refused. not_refused (other side) bytes incoming e arrives refused)
          (λ e one _. omega (arith, one));
    }

-- a message that comes
pub formed_hearing : (side : Side) (bytes : List ℕ) (incoming : Incoming)
    → Arrives side bytes (Ok incoming)
    → IsFormed (letter side ∷ 1 ∷ bytes)
formed_hearing side bytes incoming arrives =
    let most = short side bytes incoming arrives in
    record {
      size = (omega arith, omega (arith, most));
      faultless = faultless side 1 bytes (omega arith) (λ two. absurd (omega (arith, two)))
          (λ e none _. omega (arith, none))
          (λ e _ refused. not_refused side bytes incoming e arrives refused);
    }

-- an opening, a loss or a close
pub formed_bare : (side : Side) (kind : ℕ) → 2 ≤ kind → kind < 5
    → IsFormed (letter side ∷ kind ∷ [])
formed_bare side kind some few =
    record {
      size = (omega arith, omega arith);
      faultless = faultless side kind [] few (λ _. refl)
          (λ e none _. omega (arith, none, some))
          (λ e one _. omega (arith, one, some));
    }
