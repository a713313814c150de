use Rattle.std.proofs.Common.{length, ap, ◌∙◌}
use Rattle.uuid.proofs.TextLemmas.{by_index_length}
use Rattle.lab_journal.proofs.relayed.id_text.Goals as goal

pub returns-clause-short : goal.returns-clause-short
returns-clause-short c =
    ap length (c.new.ensures ∙ c.in_ok-from_str.ensures.ok ∙ c.encode_lower.ensures.text)
    ∙ by_index_length 36 _
