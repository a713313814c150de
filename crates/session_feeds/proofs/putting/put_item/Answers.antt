use Rattle.std.proofs.Common.{[], ◌∷◌, ◌++◌, ◌∙◌, refl, subst}
use Rattle.session_feeds.specs.Puts.{IsLast}
use Rattle.session_feeds.proofs.PutLemmas.{AddsCalls-full, AddsCalls-trial}
use Rattle.session_feeds.proofs.putting.put_item.Goals as goal

pub returns-in-Ok : goal.returns-in-Ok
returns-in-Ok g c =
    let m = c.loop.invariant in (
      record {
        item = c.args.item;
        as_last = c.args.last;
        full = m.1;
        id = c.next-id.result;
        now = c.now.result;
        answer = c.in-Ok.put;
      },
      record {
        item = refl;
        as_last = refl;
        answer = refl;
        is_last = subst (λ i. IsLast i c.in-Ok.put) m.0 c.in-Ok.ensures.back;
        calls =
            AddsCalls-trial _ _ _ c.args.last c.args.item _ m.1 _ _ c.in-Ok.put m.0 m.2
            c.in-Ok.ensures.calls;
      },
    )

pub loop-preserved : goal.loop-preserved
loop-preserved g c =
    let m = c.loop.invariant in (
      c.in-Err.ensures.back ∙ m.0,
      m.1 ++ (c.next-id.result, c.now.result) ∷ [],
      AddsCalls-full _ _ _ c.args.last c.args.item _ c.in-Err.back m.1 _ _ m.0
          c.in-Err.ensures.back m.2 c.in-Err.ensures.calls,
    )
