use Rattle.std.proofs.Common.{sym, subst, ◌++◌, ◌∷◌, []}
use Rattle.session_workers.specs.ResendRuns.{Resends}
use Rattle.session_workers.proofs.ResendRunLemmas.{Resends-more, Resends-none}
use Rattle.session_workers.proofs.resend_job.ResendJobJob.run.Goals as goal

pub loop-init : goal.loop-init
loop-init g c = (c.args.self.new, [], Resends-none _ c.args.self.new)

pub loop-preserved : goal.loop-preserved
loop-preserved g c =
    let m = c.loop.invariant in
    let t = c.turn.ensures in
    let more = Resends-more _ _ _ _ _ _ _ m.0 m.2 t.1 in (
      c.if-resender.false,
      m.1 ++ t.0 ∷ [],
      subst (λ n. Resends c.args.self.resender (m.1 ++ t.0 ∷ []) n c.turn.new.self)
          (sym c.first_of-gave_up.ensures) more,
    )

pub returns-then-resender : goal.returns-then-resender
returns-then-resender g c =
    let m = c.loop.invariant in
    let t = c.turn.ensures in
    let more = Resends-more _ _ _ _ _ _ _ m.0 m.2 t.1 in
    record {
      turns = m.1 ++ t.0 ∷ [];
      resends =
          subst (λ n. Resends c.args.self.resender (m.1 ++ t.0 ∷ []) n c.turn.new.self)
          (sym c.first_of-gave_up.ensures) more;
      over = c.if-resender.true;
    }
