use Rattle.std.proofs.Common.{◌&&◌, ◌==◌, ◌-◌, ◌++◌, sym, refl, ap, ◌∙◌, ◌∷◌, [], inl, le_of_eq}
use Rattle.shell_session.specs.Children.{ChildState}
use Rattle.shell_session.specs.Parcels.{is_over, overs}
use Rattle.shell_session.proofs.InputLemmas.{took-same}
use Rattle.shell_session.proofs.shell_agent.run.Goals as goal

pub returns-then-not-is_last_over : goal.returns-then-not-is_last_over
returns-then-not-is_last_over g c =
    let left = c.is_last_over.ensures.left in
    record {
      input = λ before took.
          took-same (before ++ c.args.parcel ∷ []) c.hear.new.self c.is_last_over.new.self (
            ap (λ (d : ChildState). d.stdin) left,
            ap (λ (d : ChildState). d.stdin_faults) left,
            ap
                (λ (d : ChildState). d.over) left,
          )
          (c.hear.ensures.input before took);
      feeding =
          ap (λ (d : ChildState). d.feeding) left
          ∙ ap (λ n. n - overs (c.args.parcel ∷ [])) c.hear.ensures.feeding;
      counted = le_of_eq (sym (ap (λ (d : ChildState). d.end_faults) left ∙ c.hear.ensures.end.1));
      goes = inl (
        ap (λ n. is_over c.args.parcel && (n == 1)) (sym c.hear.ensures.feeding)
            ∙ (sym c.is_last_over.ensures.last ∙ c.if-not-is_last_over.true),
        (
          ap (λ (d : ChildState). d.statuses) left
              ∙ c.hear.ensures.end.0,
          ap (λ (d : ChildState). d.end_faults) left ∙ c.hear.ensures.end.1,
        ),
        (c.nothing.result, refl, c.nothing.ensures),
      );
    }
