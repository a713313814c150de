-- The binary messages of a link writer, turn by turn.
use Rattle.std.proofs.Common.{◌≡◌, ℕ, ◌+◌, ◌≤◌, Bool, not, cond, Option, Some, None, List, [], ◌∷◌, ◌++◌, map, refl, sym, ap, ◌∙◌, arith}
use Rattle.std.specs.List.{count_by, filter, flat_map, sum_by}
use Rattle.std.specs.Prelude.{Ok, Err, is_ok}
use Rattle.std.proofs.lemmas.List.{map-append}
use Rattle.std.proofs.lemmas.List.Elements.{filter-append, filter_map-append}
use Rattle.std.proofs.lemmas.List.Sums.{sum_by-append}
use Rattle.chan_io.specs.declared.failed.IoFault.{IoFault}
use Rattle.chan_io.specs.declared.got.Got.{Got}
use Rattle.chan_values.specs.declared.side.Side.{Side}
use Rattle.channel_core.specs.Call.{Entry}
use Rattle.channel_core.specs.History.{emissions, message_emitted}
use Rattle.channel_core.specs.Wire.{encoding}
use Rattle.channel_core.specs.declared.message.Outgoing.{Outgoing}
use Rattle.session_run.specs.Held.{end_entry}
use Rattle.session_workers.specs.Writing.{SendAnswer, WriterTurn, emits, idles, starves, end_calls, failures, messages_in, send_in, starved, text_by}
use Rattle.session_workers.specs.WriterLaws.{EmissionsAreSent, history_of_turns, is_binary, pulled_in}

-- the message that a turn pulled, and the answer of its send
abbrev Pulled : Type 0
Pulled = Outgoing × SendAnswer

-- the binary message of a pulled one
abbrev binary_of : Side → Pulled → Got
binary_of side p = Got.Binary (encoding side p.0)

abbrev had_no_fault : Pulled → Bool
had_no_fault p = is_ok p.1

-- what one turn emitted
turn_emitted : (turn : WriterTurn)
    → emissions (map end_entry (end_calls turn)) ≡ map (λ p. p.0) (pulled_in turn)
unfolding emissions
turn_emitted (emits now out sent) = refl
turn_emitted (idles now i) = refl
turn_emitted (starves now) = refl

emissions-append : (h k : List Entry) → emissions (h ++ k) ≡ emissions h ++ emissions k
unfolding emissions
emissions-append h k = filter_map-append (λ (e : Entry). message_emitted e.answer) h k

emissions-nil : emissions [] ≡ []
unfolding emissions
emissions-nil = refl

emitted : (turns : List WriterTurn)
    → emissions (history_of_turns turns) ≡ map (λ p. p.0) (flat_map pulled_in turns)
emitted [] = emissions-nil
emitted (turn ∷ turns) =
    let calls = flat_map end_calls turns in
    ap emissions (map-append end_entry (end_calls turn) calls)
    ∙ emissions-append (map end_entry (end_calls turn)) (map end_entry calls)
    ∙ ap (λ l. l ++ emissions (history_of_turns turns)) (turn_emitted turn)
    ∙ ap (λ l. map (λ (p : Pulled). p.0) (pulled_in turn) ++ l) (emitted turns)
    ∙ sym (map-append (λ (p : Pulled). p.0) (pulled_in turn) (flat_map pulled_in turns))

-- what a text leaves among the binary messages
no_binary : (text : Option SendAnswer) → filter is_binary (text_by text) ≡ []
no_binary None = refl
no_binary (Some (Ok done)) = refl
no_binary (Some (Err fault)) = refl

-- what one turn sent
turn_sent : (side : Side) (turn : WriterTurn)
    → filter is_binary (messages_in side turn)
    ≡ map (binary_of side) (filter had_no_fault (pulled_in turn))
turn_sent side (emits now out (Ok done)) = refl
turn_sent side (emits now out (Err fault)) = refl
turn_sent side (idles now i) = no_binary i.text
turn_sent side (starves now) = refl

sent : (side : Side) (turns : List WriterTurn)
    → filter is_binary (flat_map (messages_in side) turns)
    ≡ map (binary_of side) (filter had_no_fault (flat_map pulled_in turns))
sent side [] = refl
sent side (turn ∷ turns) =
    let pulled : List Pulled = flat_map pulled_in turns in
    let first : List Got = map (binary_of side) (filter had_no_fault (pulled_in turn)) in
    filter-append is_binary (messages_in side turn) (flat_map (messages_in side) turns)
    ∙ ap (λ l. l ++ filter is_binary (flat_map (messages_in side) turns)) (turn_sent side turn)
    ∙ ap (λ l. first ++ l) (sent side turns)
    ∙ sym
    (map-append (binary_of side) (filter had_no_fault (pulled_in turn)) (filter had_no_fault pulled))
    ∙ ap (map (binary_of side)) (sym (filter-append had_no_fault (pulled_in turn) pulled))

-- how many of some pulled messages are missing
abbrev missing_of : List Pulled → ℕ
missing_of pulled = count_by (λ p. not (is_ok p.1)) pulled

-- how many sends failed in some turns, and in how many memory was wanted
abbrev faults_of : List WriterTurn → ℕ
faults_of turns = sum_by (λ turn. failures (send_in turn)) turns + count_by starved turns

turn_missing : (turn : WriterTurn) → missing_of (pulled_in turn) ≤ faults_of (turn ∷ [])
turn_missing (emits now out (Ok done)) = omega arith
turn_missing (emits now out (Err IoFault.Failed)) = omega arith
turn_missing (emits now out (Err IoFault.NoMemory)) = omega arith
turn_missing (idles now i) = omega arith
turn_missing (starves now) = omega arith

missing : (turns : List WriterTurn) → missing_of (flat_map pulled_in turns) ≤ faults_of turns
missing [] = omega arith
missing (turn ∷ turns) =
    let absent : Pulled → ℕ = λ p. cond (not (is_ok p.1)) 1 0 in
    let failed : WriterTurn → ℕ = λ t. failures (send_in t) in
    let wanted : WriterTurn → ℕ = λ t. cond (starved t) 1 0 in
    let first = turn_missing turn in
    let rest = missing turns in
    omega (
      arith,
      sum_by-append absent (pulled_in turn) (flat_map pulled_in turns),
      sum_by-append failed (turn ∷ []) turns,
      sum_by-append wanted (turn ∷ []) turns,
    )

pub emissions_are_sent : EmissionsAreSent
emissions_are_sent side turns = record {
  emitted = emitted turns;
  sent = sent side turns;
  missing = missing turns;
}
