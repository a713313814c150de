use Rattle.std.proofs.Common.{◌∙◌, Some, None, ap, refl, inl, inr}
use Rattle.chan_io.specs.declared.got.Got.{Got}
use Rattle.std.specs.Prelude.{Ok, Err}
use Rattle.session_workers.specs.Reading.{gets, loses, passes, wants}
use Rattle.session_run.proofs.AddsLemmas.{AddsCalls-none}
use Rattle.session_workers.proofs.ReaderLemmas.{DialsAll-none, ReceivesAll-failed, ReceivesAll-got, ReceivesAll-wanted, Receives-of, Failed-once, Steady-ok, Steady-wanted}
use Rattle.session_workers.proofs.WritingLemmas.{CountsFailures-none}
use Rattle.session_workers.proofs.link_reader.LinkReader.receive.Goals as goal

pub returns-in-Ok-Binary : goal.returns-in-Ok-Binary
returns-in-Ok-Binary g c =
    let m = c.meet_message.ensures in (
      gets c.in-Ok-Binary.bytes m.0,
      record {
        may = (c.requires.on, c.requires.up, m.1.may);
        state = ap (λ over. record c.args.self.now.state { over = over }) m.1.over;
        setting = refl;
        end = m.1.end;
        shelf = m.1.shelf;
        dials = DialsAll-none _;
        arrivals =
            ReceivesAll-got _ _ _
            (Receives-of _ _ _ _ (c.in-Ok-Binary.is ∙ ap Ok c.in-Ok-Binary.field-0-is)
            c.receive.ensures.receives);
        missed = CountsFailures-none _;
        failed =
            Steady-ok _ _ _ _ (c.in-Ok-Binary.is ∙ ap Ok c.in-Ok-Binary.field-0-is)
            c.receive.ensures.steady;
      },
    )

pub returns-in-Ok-Text : goal.returns-in-Ok-Text
returns-in-Ok-Text g c = (
  passes c.in-Ok-Text._text,
  record {
    may = (c.requires.on, c.requires.up);
    state = refl;
    setting = refl;
    end = AddsCalls-none _;
    shelf = AddsCalls-none _;
    dials = DialsAll-none _;
    arrivals =
        ReceivesAll-got _ _ _
        (Receives-of _ _ _ _ (c.in-Ok-Text.is ∙ ap Ok c.in-Ok-Text.field-0-is)
        c.receive.ensures.receives);
    missed = CountsFailures-none _;
    failed =
        Steady-ok _ _ _ _ (c.in-Ok-Text.is ∙ ap Ok c.in-Ok-Text.field-0-is)
        c.receive.ensures.steady;
  },
)

pub returns-in-Ok-Gone : goal.returns-in-Ok-Gone
returns-in-Ok-Gone g c = (
  loses (Some Got.Gone),
  record {
    may = (c.requires.on, c.requires.up, inr refl);
    state = refl;
    setting = refl;
    end = c.lost.ensures;
    shelf = AddsCalls-none _;
    dials = DialsAll-none _;
    arrivals =
        ReceivesAll-got _ _ _
        (Receives-of _ _ _ _ (c.in-Ok-Gone.is ∙ ap Ok c.in-Ok-Gone.field-0-is)
        c.receive.ensures.receives);
    missed = CountsFailures-none _;
    failed =
        Steady-ok _ _ _ _ (c.in-Ok-Gone.is ∙ ap Ok c.in-Ok-Gone.field-0-is)
        c.receive.ensures.steady;
  },
)

pub returns-in-Err-Failed : goal.returns-in-Err-Failed
returns-in-Err-Failed g c =
    let is = c.in-Err-Failed.is ∙ ap Err c.in-Err-Failed.field-0-is in (
      loses None,
      record {
        may = (c.requires.on, c.requires.up, inl refl);
        state = refl;
        setting = refl;
        end = c.lost-in-Err-Failed.ensures;
        shelf = AddsCalls-none _;
        dials = DialsAll-none _;
        arrivals = ReceivesAll-failed _ _ (Receives-of _ _ _ _ is c.receive.ensures.receives);
        missed = CountsFailures-none _;
        failed = Failed-once _ _ _ is c.receive.ensures.failed;
      },
    )

pub returns-in-Err-NoMemory : goal.returns-in-Err-NoMemory
returns-in-Err-NoMemory g c =
    let is = c.in-Err-NoMemory.is ∙ ap Err c.in-Err-NoMemory.field-0-is in (
      wants,
      record {
        may = c.requires.on;
        state = refl;
        setting = refl;
        end = AddsCalls-none _;
        shelf = AddsCalls-none _;
        dials = DialsAll-none _;
        arrivals = ReceivesAll-wanted _ _ (Receives-of _ _ _ _ is c.receive.ensures.receives);
        missed = CountsFailures-none _;
        failed = Steady-wanted _ _ _ is c.receive.ensures.steady;
      },
    )
