use Rattle.std.proofs.Common.{◌∙◌, Err, ap, refl, arith}
use Rattle.session_workers.specs.Reading.{dials, misses, wants}
use Rattle.session_run.proofs.AddsLemmas.{AddsCalls-none}
use Rattle.session_workers.proofs.ReaderLemmas.{DialsAll-failed, DialsAll-none, DialsAll-replied, DialsAll-wanted, Dials-of, Failed-once, ReceivesAll-none, Steady-wanted}
use Rattle.session_workers.proofs.WritingLemmas.{CountsFailures-none}
use Rattle.session_workers.proofs.link_reader.LinkReader.dial.Goals as goal

pub returns-in_default : goal.returns-in_default
returns-in_default g c = (
  wants,
  record {
    may = c.requires.on;
    state = refl;
    setting = refl;
    end = AddsCalls-none _;
    shelf = AddsCalls-none _;
    dials = DialsAll-none _;
    arrivals = ReceivesAll-none _;
    missed = CountsFailures-none _;
    failed = CountsFailures-none _;
  },
)

pub returns-in-Ok-dial : goal.returns-in-Ok-dial
returns-in-Ok-dial g c =
    let taken = c.take_reply.ensures in (
      dials c.deref.result.now c.in-Ok-dial.reply taken.0,
      record {
        may = (
          c.requires.on,
          c.requires.down,
          c.deref.ensures.value ∙ c.in-Ok.ensures,
          taken.1.may,
        );
        state = taken.1.state;
        setting = refl;
        end = taken.1.end;
        shelf = taken.1.shelf;
        dials = DialsAll-replied _ _ _ _ c.in-Ok-dial.ensures.dials;
        arrivals = ReceivesAll-none _;
        missed =
            record {
              rises = omega (arith, c.in-Ok-dial.ensures.steady);
              stays = λ _. c.in-Ok-dial.ensures.steady;
            };
        failed = CountsFailures-none _;
      },
    )

pub returns-then-is_none : goal.returns-then-is_none
returns-then-is_none g c = (
  misses c.deref.result.now,
  record {
    may = (c.requires.on, c.requires.down, c.deref.ensures.value ∙ c.in-Ok.ensures);
    state = c.miss.ensures;
    setting = refl;
    end = AddsCalls-none _;
    shelf = AddsCalls-none _;
    dials =
        DialsAll-failed _ _ _
        (Dials-of _ _ _ _ _ _ refl (c.in-Err-Failed.is ∙ ap Err c.in-Err-Failed.field-0-is)
        c.dial.ensures.dials);
    arrivals = ReceivesAll-none _;
    missed =
        Failed-once _ _ _ (c.in-Err-Failed.is ∙ ap Err c.in-Err-Failed.field-0-is)
        c.dial.ensures.failed;
    failed = CountsFailures-none _;
  },
)

pub returns-in-Err-Failed : goal.returns-in-Err-Failed
returns-in-Err-Failed g c = (
  misses c.deref.result.now,
  record {
    may = (c.requires.on, c.requires.down, c.deref.ensures.value ∙ c.in-Ok.ensures);
    state = c.miss.ensures;
    setting = refl;
    end = AddsCalls-none _;
    shelf = AddsCalls-none _;
    dials =
        DialsAll-failed _ _ _
        (Dials-of _ _ _ _ _ _ refl (c.in-Err-Failed.is ∙ ap Err c.in-Err-Failed.field-0-is)
        c.dial.ensures.dials);
    arrivals = ReceivesAll-none _;
    missed =
        Failed-once _ _ _ (c.in-Err-Failed.is ∙ ap Err c.in-Err-Failed.field-0-is)
        c.dial.ensures.failed;
    failed = CountsFailures-none _;
  },
)

pub returns : goal.returns
returns g c = (
  wants,
  record {
    may = c.requires.on;
    state = refl;
    setting = refl;
    end = AddsCalls-none _;
    shelf = AddsCalls-none _;
    dials =
        DialsAll-wanted c.deref.result.now _ _
        (Dials-of _ _ _ _ _ _ refl (c.in-Err-NoMemory.is ∙ ap Err c.in-Err-NoMemory.field-0-is)
        c.dial.ensures.dials);
    arrivals = ReceivesAll-none _;
    missed =
        Steady-wanted _ _ _ (c.in-Err-NoMemory.is ∙ ap Err c.in-Err-NoMemory.field-0-is)
        c.dial.ensures.steady;
    failed = CountsFailures-none _;
  },
)
