-- The feeders of a child's two outputs.
use Rattle.std.specs.Prelude.{◌≡◌, ◌+◌, ◌*◌, []}
use Rattle.session_feeds.specs.Marks.{Told}
use Rattle.session_feeds.specs.declared.feeder.Fed.{Fed}
use Rattle.shell_session.specs.Readings.{Reading, given_before, mark_for}

-- what they tell: their marks differ, whatever their types
abbrev pub told_of_output : Reading → Told
told_of_output r = record {
  mark = 2 * mark_for r.ptype (given_before r.first);
  children = [];
  pieces = r.pieces;
  came = r.came;
  faults = r.faults;
}

abbrev pub told_of_errors : Reading → Told
told_of_errors r = record {
  mark = 2 * mark_for r.ptype (given_before r.first) + 1;
  children = [];
  pieces = r.pieces;
  came = r.came;
  faults = r.faults;
}

-- the same was given; a feeder never is
abbrev pub IsWidened : {F G : Type 0} → Fed F → Fed G → Type 0
IsWidened (Fed.Piece item) fed = fed ≡ Fed.Piece item
IsWidened (Fed.Another feeder) fed = fed ≡ Fed.Quiet
IsWidened Fed.Quiet fed = fed ≡ Fed.Quiet
IsWidened Fed.Over fed = fed ≡ Fed.Over
IsWidened Fed.Failed fed = fed ≡ Fed.Failed
IsWidened Fed.NoMemory fed = fed ≡ Fed.NoMemory
