use Rattle.session_end.proofs.run.run_end.Goals as goal

pub returns : goal.returns
returns g c = (
  c.in-Ok.base,
  c.in-Ok.ensures.draws,
  c.run_plan-ran.ensures c.args.setup c.in-Ok.base c.in-Ok-new.ensures,
)
