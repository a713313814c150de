use Rattle.std.proofs.Common.{◌≡◌, ◌||◌, ◌∙◌, [], true, false, refl, sym, ap}
use Rattle.session_run.proofs.AddsLemmas.{AddsCalls-none}
use Rattle.session_end.proofs.leftover.put_unless.Goals as goal

pub returns-then-progress : goal.returns-then-progress
returns-then-progress g c = (
  [],
  record {
    calls = AddsCalls-none _;
    after = c.if-progress.true ∙ ap (λ b. b || false) (sym c.if-progress.true);
    tried =
        λ is. absurd (let e : true ≡ false = sym c.if-progress.true ∙ is in cc);
    skipped = λ is. refl;
    refused = refl;
    over = refl;
  },
)
