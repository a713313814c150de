use Rattle.std.proofs.Common.{ap, ◌∙◌}
use Rattle.session_audit.specs.declared.marks.Mark.{Mark}
use Rattle.session_audit.specs.Marks.{first_place}
use Rattle.session_audit.proofs.EndLemmas.{on_ok}
use Rattle.session_audit.proofs.marks.Marks.note_stream.Goals as goal

pub returns : goal.returns
returns c =
    on_ok c.put.result _ _ c.put.ensures
    (λ p. record {
      opened = p.opened;
      put = (
        ap (λ (m : Mark). m.place) p.put
            ∙ c.first_of.ensures
            ∙ ap (λ (m : Mark). first_place m.place c.args.place) c.mark-old.ensures,
        ap (λ (m : Mark). m.last) p.put,
        ap (λ (m : Mark). m.acked) p.put ∙ ap (λ (m : Mark). m.acked) c.mark-old.ensures,
      );
      kept = p.kept;
    })
