use Rattle.std.proofs.Common.{ap, refl, inl}
use Rattle.session_workers.specs.Reading.{opens, finishes, refuses}
use Rattle.session_run.proofs.AddsLemmas.{AddsCalls-none}
use Rattle.session_workers.proofs.ReaderLemmas.{Replies-of}
use Rattle.session_workers.proofs.reply.take_reply.Goals as goal

pub returns-in-Ok-Accepted : goal.returns-in-Ok-Accepted
returns-in-Ok-Accepted g c = (
  opens c.now.result c.in-Ok-Accepted.token,
  record {
    may =
        Replies-of _ _ _ _ c.as_slice.ensures c.in-Ok-Accepted.field-0-is
        c.in-Ok-Accepted.ensures;
    state = c.open.ensures;
    end = c.opened.ensures;
    shelf = c.note_opening.ensures;
  },
)

pub returns-then-state : goal.returns-then-state
returns-then-state g c =
    let h = c.hear_closing.ensures in (
      finishes h.0 h.1,
      record {
        may = (
          c.if-state.true,
          Replies-of _ _ _ _ c.as_slice.ensures c.in-Ok-Ended.field-0-is
              c.in-Ok-Ended.ensures,
        );
        state = ap (λ over. record c.args.state.now { tries = 5; over = over }) h.2.over;
        end = h.2.end;
        shelf = AddsCalls-none _;
      },
    )

pub returns-in-Ok-Other : goal.returns-in-Ok-Other
returns-in-Ok-Other g c = (
  refuses,
  record {
    may =
        inl (Replies-of _ _ _ _ c.as_slice.ensures c.in-Ok-Other.field-0-is
        c.in-Ok-Other.ensures);
    state = refl;
    end = AddsCalls-none _;
    shelf = AddsCalls-none _;
  },
)
