use Rattle.std.proofs.Common.{rules, ◌≡◌, ◌≤◌, ◌∙◌, List, length, map, ap, sym, subst}
use Rattle.clap.specs.Words.{App, Text, app_of, fault_of, found_of, rows_of}
use Rattle.program_words.proofs.Programs.{relay_known}
use Rattle.program_words.proofs.ReaderLemmas.{found_words, refused_words, said_fault, said_line, taken_words}
use Rattle.program_words.specs.Commands.{relay}
use Rattle.program_words.specs.Faults.{AsksText, Tells}
use Rattle.program_words.specs.RelayLine.{IsRelayLine, SaysRelay}
use Rattle.program_words.specs.declared.relay_words.RelayWords.{RelayWords}
use Rattle.program_words.proofs.relay_words.read_relay_words.Goals as goal

pub find-requires-clause-one : goal.find-requires-clause-one
find-requires-clause-one c = subst (λ (a : App). (texts : List Text) → length (fault_of a texts) ≤ 1)
    (sym c.in_ok-command.ensures) relay_known.one

pub returns-in_err-matches-clause-fault : goal.returns-in_err-matches-clause-fault
returns-in_err-matches-clause-fault c =
    let words = c.args.words.now in
    let told : Tells c.in_err-matches.field-0.0 (AsksText relay words) ((x : RelayWords) × IsRelayLine x words) =
    refused_words relay (app_of c.in_ok-command.command) words (map (λ s. s.now) c.as_slice.result.now)
    c.in_ok-command.ensures (ap (map (λ s. s.now)) c.as_slice.ensures.value ∙ c.in_ok-texts.ensures)
    c.in_err-matches.field-0.0 ((x : RelayWords) × IsRelayLine x words) (λ l. l.1.0) c.in_err-matches.ensures.fault in
    search rules

pub returns-clause-line : goal.returns-clause-line
returns-clause-line c =
    let words = c.args.words.now in
    let found = app_of c.in_ok-command.command in
    let texts = map (λ s. s.now) c.as_slice.result.now in
    let are : texts ≡ words = ap (map (λ s. s.now)) c.as_slice.ensures.value ∙ c.in_ok-texts.ensures in
    let rows = rows_of (found_of c.in_ok-matches.matches) in
    said_line SaysRelay relay words rows
    (taken_words relay found words texts c.in_ok-command.ensures are c.in_ok-matches.ensures.takes)
    (found_words relay found words texts c.in_ok-command.ensures are rows c.in_ok-matches.ensures.finds)
    c.read_line.result c.read_line.ensures.line

pub returns-clause-fault : goal.returns-clause-fault
returns-clause-fault c =
    let words = c.args.words.now in
    let found = app_of c.in_ok-command.command in
    let texts = map (λ s. s.now) c.as_slice.result.now in
    let are : texts ≡ words = ap (map (λ s. s.now)) c.as_slice.ensures.value ∙ c.in_ok-texts.ensures in
    let rows = rows_of (found_of c.in_ok-matches.matches) in
    said_fault SaysRelay relay words rows
    (taken_words relay found words texts c.in_ok-command.ensures are c.in_ok-matches.ensures.takes)
    (found_words relay found words texts c.in_ok-command.ensures are rows c.in_ok-matches.ensures.finds)
    c.read_line.result c.read_line.ensures.fault
