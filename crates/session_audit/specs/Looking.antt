-- What the acts of an end tell without a history: what was sent on the present connection, and what
-- was given out for the other end to hear.
use Rattle.std.specs.Prelude.{◌≡◌, ℕ, List, [], ◌∷◌, ◌++◌}
use Rattle.std.specs.List.{Contains, fold}
use Rattle.channel_core.specs.declared.message.Incoming.{Incoming}
use Rattle.channel_core.specs.declared.message.Outgoing.TheVariants as Outgoing
use Rattle.session_audit.specs.declared.act.Act.{Act}

-- an opening forgets what was sent, a stream message given out was sent
abbrev pub sent_with : List ℕ → Act → List ℕ
sent_with sent Act.Opens = []
sent_with sent (Act.Emits (Outgoing.Stream m)) = sent ++ m.seq ∷ []
sent_with sent act = sent

-- the numbers that were sent since the last opening
unfoldable pub sent_in : List Act → List ℕ
sent_in acts = fold sent_with [] acts

-- this act gives out what is heard
abbrev pub GivesOut : Incoming → Act → Type 0
GivesOut (Incoming.Stream n id item last) (Act.Emits (Outgoing.Stream m)) =
    (m.seq ≡ n) × (m.id ≡ id) × (m.item ≡ item) × (m.last ≡ last)
GivesOut (Incoming.Ack n) (Act.Emits (Outgoing.Ack k id date)) = k ≡ n
GivesOut incoming act = ⊥

-- one of these acts gives out what is heard
abbrev pub AnyGives : Incoming → List Act → Type 0
AnyGives incoming acts = (act : Act) × Contains acts act × GivesOut incoming act
