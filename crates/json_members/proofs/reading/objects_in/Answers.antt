use Rattle.std.proofs.Common.{refl, sym}
use Rattle.json_members.proofs.ListLemmas.{each_as-objects}
use Rattle.json_members.proofs.reading.objects_in.Goals as goal

pub returns-then-not-are_objects : goal.returns-then-not-are_objects
returns-then-not-are_objects c =
    rw (c.in_ok-list.ensures, each_as-objects c.in_ok-list.list.now, sym c.if-not-are_objects.ensures) refl

pub returns : goal.returns
returns c =
    rw (c.in_ok-list.ensures, each_as-objects c.in_ok-list.list.now, sym c.if-not-are_objects.ensures) refl
