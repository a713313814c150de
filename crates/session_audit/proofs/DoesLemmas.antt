-- What the replay makes of one entry: nothing, or the calls that show it.
use Rattle.std.proofs.Common.{ℕ, ◌≡◌, Option, Some, None, List, [], ◌∷◌, ◌++◌, ap, ◌∙◌}
use Rattle.channel_core.specs.declared.call.EndAnswer.{EndAnswer}
use Rattle.channel_core.specs.declared.call.EndCall.{EndCall}
use Rattle.channel_core.specs.Call.{Entry}
use Rattle.channel_core.specs.Legal.{answer_to}
use Rattle.session_audit.specs.declared.act.Act.{Act}
use Rattle.session_audit.specs.Acts.{acts_of}
use Rattle.session_audit.specs.Replay.{entries_of, replay_of}
use Rattle.session_audit.proofs.ExplainLemmas.{Explains}

-- these entries show the act, and with them the replay stands for the history with its entry
abbrev pub Does : ℕ → List Entry → List Entry → Entry → Act → List Entry → Type 0
Does w h g e act l = (acts_of l ≡ act ∷ []) × Explains w (h ++ e ∷ []) (g ++ l)

-- what the replay makes of an entry: nothing where it shows nothing
abbrev pub Steps : ℕ → List Entry → List Entry → Entry → Option Act → Type 0
Steps w h g e None = Explains w (h ++ e ∷ []) g
Steps w h g e (Some act) = Does w h g e act (replay_of w g act)

-- ---- the calls of the replay and their answers

pub answered_one : (w : ℕ) (g : List Entry) (c : EndCall) (a : EndAnswer)
    → answer_to w g c ≡ a
    → entries_of w g (c ∷ []) ≡ record { call = c; answer = a } ∷ []
answered_one w g c a is = ap (λ (x : EndAnswer). record { call = c; answer = x } ∷ []) is

pub answered_two : (w : ℕ) (g : List Entry) (c d : EndCall) (a b : EndAnswer)
    → answer_to w g c ≡ a
    → answer_to w (g ++ record { call = c; answer = a } ∷ []) d ≡ b
    → entries_of w g (c ∷ d ∷ [])
    ≡ record { call = c; answer = a } ∷ record { call = d; answer = b } ∷ []
answered_two w g c d a b first second =
    ap
    (λ (x : EndAnswer). record { call = c; answer = x }
    ∷ entries_of w (g ++ record { call = c; answer = x } ∷ []) (d ∷ []))
    first
    ∙ ap
    (λ (l : List Entry). record { call = c; answer = a } ∷ l)
    (answered_one w (g ++ record { call = c; answer = a } ∷ []) d b second)
