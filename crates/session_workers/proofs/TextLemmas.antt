-- How often a link writer sends the end-of-session text.
use Rattle.std.proofs.Common.{◌≡◌, ℕ, ◌+◌, ◌≤◌, ◌<◌, max, Bool, true, false, cond, Option, Some, None, List, [], ◌∷◌, refl, sym, ap, ◌∙◌, subst, arith}
use Rattle.std.specs.List.{count_by}
use Rattle.std.specs.Prelude.{◌||◌, if◌then◌else◌, is_some, nat_eq, nat_lt}
use Rattle.std.proofs.lemmas.Bool.{and_parts, ltb-true}
use Rattle.std.proofs.lemmas.List.Sums.{sum_by-append}
use Rattle.chan_values.specs.declared.side.Side.{Side}
use Rattle.channel_core.specs.declared.answer.Look.{Look}
use Rattle.turn_lock.specs.Runs.{AllFit}
use Rattle.session_run.specs.declared.shelf_call.Count.{Count}
use Rattle.session_workers.specs.Writing.{IdleTurn, SendAnswer, WriterTurn, emits, idles, starves, is_agent, is_text_due, told_idle, wants}
use Rattle.session_workers.specs.WriterRuns.{MayTurn, Progress, at_first, progress}
use Rattle.session_workers.specs.WriterLaws.{TextsAreOnceForEachOpening, most_openings, openings_again, text_in}

-- in how many of these turns the text was sent, or tried
abbrev texts_in : List WriterTurn → ℕ
texts_in turns = count_by (λ turn. is_some (text_in turn)) turns

-- the same of one turn
abbrev one_text : WriterTurn → ℕ
one_text turn = cond (is_some (text_in turn)) 1 0

texts_in-first : (turn : WriterTurn) (turns : List WriterTurn)
    → texts_in (turn ∷ turns) ≡ one_text turn + texts_in turns
texts_in-first turn turns = omega (arith, sum_by-append one_text (turn ∷ []) turns)

-- a text that is due goes to a connection for which none went yet
due_later : (side : Side) (told : ℕ) (count : Count) (look : Look)
    → is_text_due side told count look None ≡ true
    → told < count.openings
due_later side told count look due =
    let agent = and_parts (is_agent side) _ due in
    let finish = and_parts count.finish _ agent.1 in
    let more = and_parts (nat_lt told count.openings) (nat_eq look.low look.next) finish.1 in
    ltb-true told count.openings more.0

due_at_close : (side : Side) (told : ℕ) (count : Count) (look : Look) (again : Count)
    → is_text_due side told count look (Some again) ≡ true
    → told < again.openings
due_at_close side told count look again due =
    let agent = and_parts (is_agent side) _ due in
    let fault = and_parts again.fault (nat_lt told again.openings) agent.1 in
    ltb-true told again.openings fault.1

-- a turn at an end that is not closed, by whether the text was due
open_bound : (due sent : Bool) (told openings rest most : ℕ)
    → sent ≡ due
    → (due ≡ true → told < openings)
    → rest + (if due then openings else told) ≤ max (if due then openings else told) most
    → cond sent 1 0 + (rest + told) ≤ max told (max (max openings 0) most)
open_bound true sent told openings rest most same later more =
    let less = later refl in
    subst (λ b. cond b 1 0 + (rest + told) ≤ max told (max (max openings 0) most)) (sym same)
    (omega (arith, less, more))
open_bound false sent told openings rest most same later more =
    subst (λ b. cond b 1 0 + (rest + told) ≤ max told (max (max openings 0) most)) (sym same)
    (omega (arith, more))

-- a turn at a closed end, which is the last
closed_bound : (due sent : Bool) (told openings again rest most : ℕ)
    → sent ≡ due
    → (due ≡ true → told < again)
    → rest ≡ 0
    → cond sent 1 0 + (rest + told) ≤ max told (max (max openings again) most)
closed_bound true sent told openings again rest most same later none =
    let less = later refl in
    subst (λ b. cond b 1 0 + (rest + told) ≤ max told (max (max openings again) most)) (sym same)
    (omega (arith, less, none))
closed_bound false sent told openings again rest most same later none =
    subst (λ b. cond b 1 0 + (rest + told) ≤ max told (max (max openings again) most)) (sym same)
    (omega (arith, none))

idle_bound : (side : Side) (told : ℕ) (count : Count) (look : Look) (again : Option Count)
    (text : Option SendAnswer) (rest most : ℕ)
    → is_some text ≡ is_text_due side told count look again
    → (is_some again ≡ true → rest ≡ 0)
    → (let i : IdleTurn = record { count = count; look = look; again = again; text = text } in
    rest + told_idle side told i again ≤ max (told_idle side told i again) most)
    → cond (is_some text) 1 0 + (rest + told)
    ≤ max told (max (max count.openings (openings_again again)) most)
idle_bound side told count look None text rest most due last more =
    open_bound (is_text_due side told count look None) (is_some text) told count.openings rest most
    due (due_later side told count look) more
idle_bound side told count look (Some again) text rest most due last more =
    closed_bound (is_text_due side told count look (Some again)) (is_some text) told
    count.openings again.openings rest most
    due (due_at_close side told count look again) (last refl)

-- after the last turn there is none
none_after : (side : Side) (p : Progress) (turns : List WriterTurn)
    → p.over ≡ true
    → AllFit (progress side) (MayTurn side) p turns
    → texts_in turns ≡ 0
none_after side p [] over all = refl
none_after side p (turn ∷ turns) over all =
    let never : true ≡ false = sym over ∙ all.0.0 in absurd (cc)

bounded : (side : Side) (p : Progress) (turns : List WriterTurn)
    → AllFit (progress side) (MayTurn side) p turns
    → texts_in turns + p.told ≤ max p.told (most_openings turns)
bounded side p [] all = omega arith
bounded side p (emits now out sent ∷ turns) all =
    let turn : WriterTurn = emits now out sent in
    let more = bounded side (progress side p turn) turns all.1 in
    omega (arith, more, texts_in-first turn turns)
bounded side p (starves now ∷ turns) all =
    let turn : WriterTurn = starves now in
    let more = bounded side (progress side p turn) turns all.1 in
    omega (arith, more, texts_in-first turn turns)
bounded side p (idles now i ∷ turns) all =
    let turn : WriterTurn = idles now i in
    let last : is_some i.again ≡ true → texts_in turns ≡ 0 =
    λ closed. none_after side (progress side p turn) turns
    (ap (λ b. b || wants i.text) closed) all.1 in
    let more = bounded side (progress side p turn) turns all.1 in
    let bound =
    idle_bound side p.told i.count i.look i.again i.text (texts_in turns) (most_openings turns)
    all.0.1.due last more in
    omega (arith, bound, texts_in-first turn turns)

pub texts_are_once_for_each_opening : TextsAreOnceForEachOpening
texts_are_once_for_each_opening side turns all =
    let bound = bounded side (at_first 0) turns all in omega (arith, bound)
