use Rattle.std.proofs.Common.{inl, sym, ◌∙◌, true≢false}
use Rattle.json_members.proofs.ParsedLemmas.{object_of-object, object_of-other, object_of-refused}
use Rattle.json_members.proofs.reading.object.Goals as goal

pub returns-then-is_object-clause-ok : goal.returns-then-is_object-clause-ok
returns-then-is_object-clause-ok c = object_of-object _ _ c.in-Ok.ensures.ok (sym c.is_object.ensures ∙ c.if-is_object.true)

pub returns-else-is_object-clause-fault : goal.returns-else-is_object-clause-fault
returns-else-is_object-clause-fault c = inl (object_of-other _ _ c.in-Ok.ensures.ok (sym c.is_object.ensures ∙ c.if-is_object.false))

pub returns-in-Err-2-clause-fault : goal.returns-in-Err-2-clause-fault
returns-in-Err-2-clause-fault c =
    inl (object_of-refused _ (c.in-Err.ensures.err (λ memory. true≢false (sym (c.is_memory.ensures.1 memory) ∙ c.if-is_memory.false))))
