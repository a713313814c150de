use Rattle.std.proofs.Common.{ap, refl, Err, Ok}
use Rattle.chan_io.specs.declared.failed.IoFault.{IoFault}
use Rattle.relay_desk.specs.Admissions.{asks, undrawn}
use Rattle.relay_desk.proofs.AdmitLemmas.{asking}
use Rattle.relay_desk.proofs.opening.ask.Goals as goal

pub returns-in-Err : goal.returns-in-Err
returns-in-Err g c = (
  undrawn c.in-Err._fault,
  record { may = tt; calls = c.in-Err.ensures; answer = refl },
)

pub returns-in-Ok-open : goal.returns-in-Ok-open
returns-in-Ok-open g c = (
  asks c.args.value.now c.in-Ok.drawn (Ok c.in-Ok-open.answer),
  record {
    may = refl;
    calls =
        asking _ _ _ c.args.value.now c.in-Ok.drawn _ _ _ c.in-Ok.ensures c.fresh_of-fresh.ensures
        refl c.in-Ok-open.ensures;
    answer = c.answer_open.ensures;
  },
)

pub returns-in-Err-Failed : goal.returns-in-Err-Failed
returns-in-Err-Failed g c = (
  asks c.args.value.now c.in-Ok.drawn (Err IoFault.Failed),
  record {
    may = refl;
    calls =
        asking _ _ _ c.args.value.now c.in-Ok.drawn _ _ _ c.in-Ok.ensures c.fresh_of-fresh.ensures
        (ap Err c.in-Err-Failed.field-0-is) c.in-Err-Failed.ensures;
    answer = refl;
  },
)

pub returns-in-Err-NoMemory : goal.returns-in-Err-NoMemory
returns-in-Err-NoMemory g c = (
  asks c.args.value.now c.in-Ok.drawn (Err IoFault.NoMemory),
  record {
    may = refl;
    calls =
        asking _ _ _ c.args.value.now c.in-Ok.drawn _ _ _ c.in-Ok.ensures c.fresh_of-fresh.ensures
        (ap Err c.in-Err-NoMemory.field-0-is) c.in-Err-NoMemory.ensures;
    answer = refl;
  },
)
