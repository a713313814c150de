use Rattle.std.proofs.Common.{◌≡◌, ◌||◌, ◌∙◌, [], true, false, refl, sym, ap}
use Rattle.session_run.proofs.AddsLemmas.{AddsCalls-none}
use Rattle.session_delivery.proofs.verdicts.put_unless.Goals as goal

pub returns-then-stopped : goal.returns-then-stopped
returns-then-stopped g c = (
  [],
  record {
    calls = AddsCalls-none _;
    after = ap (λ b. b || false) (sym c.if-stopped.true);
    tried =
        λ is. absurd (let e : true ≡ false = sym c.if-stopped.true ∙ is in cc);
    skipped = λ is. refl;
  },
)
