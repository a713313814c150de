use Rattle.std.proofs.Common.{rules, ◌≡◌, ◌<◌, ◌∙◌, true, false, length, map, [], get_or, arith}
use Rattle.std.specs.List.{list_any}
use Rattle.std.proofs.lemmas.List.{length-map}
use Rattle.session_register.specs.Names.{IsSessionName, same_name}
use Rattle.program_words.proofs.SessionLemmas.{no_name, none_first, one_more, part_at, too_many, twice}
use Rattle.program_words.proofs.session_names.names_of.Goals as goal
use Rattle.program_words.proofs.session_names.names_of.Goals.{then-len-eq-MAX_SESSIONS-via-then-len-eq-MAX_SESSIONS, then-len-eq-MAX_SESSIONS-via-else-len-eq-MAX_SESSIONS+then-contains}

pub loop-part-init : goal.loop-part-init
loop-part-init c = rw c.new-names.ensures.items (none_first _)

pub returns-in_default : goal.returns-in_default
returns-in_default c =
    let parts = c.args.parts.now in
    let i = c.loop-part.part-index in
    let below : i < length (map (λ s. s.now) parts) =
    omega (arith, length-map parts (λ s. s.now), c.loop-part-test.true) in
    let unnamed : IsSessionName c.as_bytes.result.now → ⊥ = search rules in
    no_name (map (λ s. s.now) parts) i c.as_bytes.result.now below
    (c.as_bytes.ensures.value ∙ part_at parts i _ c.loop-part-test.true) unnamed

pub returns-then-len-eq-MAX_SESSIONS : goal.returns-then-len-eq-MAX_SESSIONS
returns-then-len-eq-MAX_SESSIONS c =
    let parts = c.args.parts.now in
    let all = map (λ s. s.now) parts in
    let names = c.loop-part.names.items in
    let i = c.loop-part.part-index in
    let below : i < length all =
    omega (arith, length-map parts (λ s. s.now), c.loop-part-test.true) in
    let is : c.in-Some.name ≡ get_or all i [] =
    c.in-Some.ensures.value ∙ c.as_bytes.ensures.value
    ∙ part_at parts i _ c.loop-part-test.true in
    elim c.then-len-eq-MAX_SESSIONS.branch [
      | then-len-eq-MAX_SESSIONS-via-then-len-eq-MAX_SESSIONS w ↦
          let full : length names ≡ 64 = omega (arith, c.len.ensures, w.if-len-eq-MAX_SESSIONS.true) in
          too_many all names i c.loop-part.invariant below full
      | then-len-eq-MAX_SESSIONS-via-else-len-eq-MAX_SESSIONS+then-contains w ↦
          let found : list_any (λ x. same_name x c.in-Some.name) names ≡ true = search rules in
          twice all names i c.in-Some.name c.loop-part.invariant below is found
    ]

pub loop-part-preserved : goal.loop-part-preserved
loop-part-preserved c =
    let parts = c.args.parts.now in
    let all = map (λ s. s.now) parts in
    let names = c.loop-part.names.items in
    let i = c.loop-part.part-index in
    let below : i < length all =
    omega (arith, length-map parts (λ s. s.now), c.loop-part-test.true) in
    let is : c.in-Some.name ≡ get_or all i [] =
    c.in-Some.ensures.value ∙ c.as_bytes.ensures.value
    ∙ part_at parts i _ c.loop-part-test.true in
    let named : IsSessionName c.in-Some.name = search rules in
    let few : length names < 64 =
    omega (arith, c.len.ensures, c.if-len-eq-MAX_SESSIONS.false, c.loop-part.invariant.few) in
    let apart : list_any (λ x. same_name x c.in-Some.name) names ≡ false = search rules in
    rw c.in_ok-push.ensures.items
    (one_more all names i c.in-Some.name c.loop-part.invariant below is named few apart)
