use Rattle.std.proofs.Common.{rules, ◌≡◌, ◌∙◌, sym, ap, map, subst}
use Rattle.program_words.specs.SessionLists.{AreSessions}
use Rattle.program_words.proofs.Splits.{list_of_parts, match_none, match_some, parts_are, some_part}
use Rattle.program_words.proofs.session_names.SessionNames.read.Goals as goal

pub names_of-requires : goal.names_of-requires
names_of-requires c = rw c.as_slice.ensures.value
    (some_part (λ s. s.now) c.in_ok-parts.parts.items c.args.text.now c.in_ok-parts.ensures)

pub returns-in-Some : goal.returns-in-Some
returns-in-Some c =
    let names = match_some _ c.in-Some.names _ _ c.in_ok-names.ensures c.in-Some.is in
    list_of_parts c.in-Some.names.items c.args.text.now names.0
    (names.1 ∙ ap (map (λ s. s.now)) c.as_slice.ensures.value ∙ c.in_ok-parts.ensures)

pub returns : goal.returns
returns c = λ names l.
    match_none _ _ _ c.in_ok-names.ensures c.in-None.is
    (subst AreSessions (sym (ap (map (λ s. s.now)) c.as_slice.ensures.value
    ∙ c.in_ok-parts.ensures ∙ parts_are names c.args.text.now l)) l.0)
