use Rattle.std.proofs.Common.{◌++◌}
use Rattle.session_run.proofs.AddsLemmas.{AddsCalls-then}
use Rattle.relay_accept.proofs.EndLemmas.{failed_asked, store_fault_behind}
use Rattle.relay_accept.proofs.accept.all_ended.Goals as goal

pub returns-in-Ok : goal.returns-in-Ok
returns-in-Ok g c = (
  c.loop-name.invariant.0 ++ _,
  record {
    adds = AddsCalls-then _ _ _ c.loop-name.invariant.0 _ c.loop-name.invariant.1 c.ended.ensures;
    ends = tt;
  },
)

pub returns-in-Ok-2 : goal.returns-in-Ok-2
returns-in-Ok-2 g c = (
  c.loop-name.invariant.0 ++ _,
  record {
    adds = AddsCalls-then _ _ _ c.loop-name.invariant.0 _ c.loop-name.invariant.1 c.ended.ensures;
    ends = tt;
  },
)

pub returns-in-Err-Failed : goal.returns-in-Err-Failed
returns-in-Err-Failed g c = (
  c.loop-name.invariant.0 ++ _,
  record {
    adds = AddsCalls-then _ _ _ c.loop-name.invariant.0 _ c.loop-name.invariant.1 c.ended.ensures;
    ends = store_fault_behind c.loop-name.invariant.0 _
        (failed_asked c.name-item.result c.ended.result c.in-Err-Failed.field-0 c.in-Err-Failed.is
        c.in-Err-Failed.field-0-is);
  },
)

pub returns-in-Err-NoMemory : goal.returns-in-Err-NoMemory
returns-in-Err-NoMemory g c = (
  c.loop-name.invariant.0 ++ _,
  record {
    adds = AddsCalls-then _ _ _ c.loop-name.invariant.0 _ c.loop-name.invariant.1 c.ended.ensures;
    ends = tt;
  },
)

pub loop-name-preserved : goal.loop-name-preserved
loop-name-preserved g c = (
  c.loop-name.invariant.0 ++ _,
  AddsCalls-then _ _ _ c.loop-name.invariant.0 _ c.loop-name.invariant.1 c.ended.ensures,
)
