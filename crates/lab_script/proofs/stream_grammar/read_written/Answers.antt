use Rattle.std.proofs.Common.{◌≡◌, ◌∙◌, sym, ap, length, arith}
use Rattle.lab_script.proofs.OneSpelling.{same_payload}
use Rattle.lab_script.proofs.StreamSpelling.{IsPayload-written}
use Rattle.lab_script.proofs.stream_grammar.read_written.Goals as goal

pub returns-then-count-eq0-clause-none : goal.returns-then-count-eq0-clause-none
returns-then-count-eq0-clause-none c bytes written spelled =
    let read = rw c.in-Some.is at c.in_ok-bytes.ensures.found in
    let one : bytes ≡ c.in-Some.bytes =
    same_payload bytes c.in-Some.bytes (IsPayload-written bytes written) read.0
    (spelled ∙ sym read.1) in
    let either = c.then-count-eq0.either in
    omega (
      arith,
      ap length one,
      ap length c.as_slice-count.ensures,
      written.some,
      written.few,
    )
