use Rattle.std.proofs.Common.{◌∙◌, Some, None, refl, sym}
use Rattle.session_workers.specs.Reading.{hears, drops, full}
use Rattle.session_run.proofs.AddsLemmas.{AddsCalls-none, AddsCalls-then}
use Rattle.session_workers.proofs.ReaderLemmas.{Says-of}
use Rattle.session_workers.proofs.arrival.meet_message.Goals as goal

pub returns-in-Ok-None : goal.returns-in-Ok-None
returns-in-Ok-None g c =
    let said =
    Says-of _ _ _ _ None c.as_slice.ensures c.in-Ok-None.field-0-is c.in-Ok-None.ensures in (
      drops said.0,
      record {
        may = said.1;
        end = AddsCalls-none _;
        shelf = AddsCalls-none _;
        over = refl;
      },
    )

pub returns-then-is_full : goal.returns-then-is_full
returns-then-is_full g c =
    let said =
    Says-of _ _ _ _ (Some c.in-Ok-Some.message) c.as_slice.ensures c.in-Ok-Some.field-0-is
    c.in-Ok-Some.ensures in (
      full c.in-Ok-Some.message c.count_before-counted.result,
      record {
        may = (
          said.0,
          c.count_before-counted.ensures.stream,
          sym c.is_full.ensures
              ∙ c.if-is_full.true,
        );
        end = AddsCalls-none _;
        shelf = c.count_before-counted.ensures.calls;
        over = refl;
      },
    )

pub returns : goal.returns
returns g c =
    let said =
    Says-of _ _ _ _ (Some c.in-Ok-Some.message) c.as_slice.ensures c.in-Ok-Some.field-0-is
    c.in-Ok-Some.ensures in
    let added = c.add_released.ensures in (
      hears c.now.result c.count_before-counted.result c.in-Ok-Some.message c.heard-answer.result
          added.0,
      record {
        may = (
          said.0,
          c.count_before-counted.ensures.stream,
          sym c.is_full.ensures
              ∙ c.if-is_full.false,
        );
        end = c.heard-answer.ensures;
        shelf = AddsCalls-then _ _ _ _ _ c.count_before-counted.ensures.calls added.1.calls;
        over = added.1.over;
      },
    )
