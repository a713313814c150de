use Rattle.std.proofs.Common.{ap, refl}
use Rattle.session_feeds.specs.Marks.{times}
use Rattle.session_delivery.specs.Answers.{marks_of}
use Rattle.session_delivery.proofs.BackLemmas.{ComesBack-new}
use Rattle.session_delivery.proofs.ListLemmas.{none_stands}
use Rattle.session_end.proofs.LeftoverLemmas.{AllCameBack-new}
use Rattle.session_end.proofs.delivering.Service.answer.Goals as goal

pub give_back-requires-after_bounds : goal.give_back-requires-after_bounds
give_back-requires-after_bounds g c κs within = (
  (λ q. 0),
  ComesBack-new g.S.F.Feeder.told _ c.args.verdict.feeders.items c.requires.fresh
      (λ q. ap (λ l. times l q) c.requires.out),
)

pub returns : goal.returns
returns g c =
    let told = g.S.F.Feeder.told in
    let fs = c.args.verdict.feeders.items in
    let put = c.put_unless.ensures in (
      record {
        puts = c.args.verdict.puts;
        last = c.args.verdict.last;
        trials = put.0;
        marks = marks_of told fs;
      },
      record {
        puts = refl;
        last = refl;
        marks = refl;
        is_answered = record { tried = put.1.tried; skipped = put.1.skipped };
        stopped = put.1.after;
        unrefused = put.1.refused;
        over = put.1.over;
        end = put.1.calls;
        shelf = refl;
        account =
            AllCameBack-new told _ (g.S.Session.stands c.give_back.new.session) fs
            c.requires.fresh c.give_back.ensures.stands;
        none_out =
            none_stands (g.S.Session.out c.give_back.new.session)
            (c.give_back.ensures.out (λ q. 0)
            (ComesBack-new told _ fs c.requires.fresh
            (λ q. ap (λ l. times l q) c.requires.out)));
        was_begun = c.give_back.ensures.begun;
        was_refused = c.give_back.ensures.refused;
      },
    )
