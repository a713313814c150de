use Rattle.agent_message.proofs.NameLemmas.{in_front}
use Rattle.agent_message.proofs.name.Name.of.Goals as goal

pub invariant_of-result : goal.invariant_of-result
invariant_of-result c =
    in_front c.args.text.now _ _ c.copy_from_slice.ensures.after c.split_at_mut-front.ensures.back
    c.requires
