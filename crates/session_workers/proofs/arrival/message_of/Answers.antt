use Rattle.std.proofs.Common.{◌∙◌, sym}
use Rattle.session_workers.proofs.ReaderLemmas.{refused}
use Rattle.session_workers.proofs.arrival.message_of.Goals as goal

pub returns-else-wants_memory : goal.returns-else-wants_memory
returns-else-wants_memory c =
    refused c.args.side c.args.bytes.now c.in-Err.refusal c.in-Err.ensures.answer.given
    (sym c.wants_memory.ensures ∙ c.if-wants_memory.false)
