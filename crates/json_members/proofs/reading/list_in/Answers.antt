use Rattle.std.proofs.Common.{sym}
use Rattle.serde_json.specs.View.{view}
use Rattle.json_members.proofs.ListLemmas.{list_at-given}
use Rattle.json_members.proofs.reading.list_in.Goals as goal

pub returns : goal.returns
returns c =
    let given = sym c.if-not-is_given.ensures in
    rw c.as_slice.ensures.value (list_at-given (view c.args.body.now) c.args.member _ _ given c.in_ok-value.ensures c.in-Some.ensures)
