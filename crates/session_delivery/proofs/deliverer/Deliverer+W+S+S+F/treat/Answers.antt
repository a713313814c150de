use Rattle.std.proofs.Common.{refl}
use Rattle.session_delivery.proofs.StepLemmas.{CrewGoes-starts}
use Rattle.session_delivery.proofs.deliverer.Deliverer+W+S+S+F.treat.Goals as goal

pub returns : goal.returns
returns g c =
    let p = c.put_unless-self.ensures in
    let s = c.start_all.ensures in
    let v = c.args.verdict in (
      record {
        puts = v.puts;
        last = v.last;
        finish = v.finish;
        trials = p.0;
        starts = s.0;
      },
      record {
        puts = refl;
        last = refl;
        finish = refl;
        is_put = record { tried = p.1.tried; skipped = p.1.skipped };
        stopped = p.1.after;
        session = refl;
        begun = refl;
        may_take = refl;
        closed = refl;
        marks = s.1.marks;
        ended = s.1.ended;
        left = s.1.left;
        fresh = s.1.fresh;
        crew =
            CrewGoes-starts _ _ _ _ c.args.self.now.crew
            (record c.args.self.now.crew {
              end = c.put_unless-self.new.end;
              shelf = c.note_finish_if.new.shelf;
            })
            _ _ p.1.calls c.note_finish_if.ensures refl _ c.start_all.new.crew c.start_all.result
            s.1.crew;
        cause = s.1.cause;
      },
    )
