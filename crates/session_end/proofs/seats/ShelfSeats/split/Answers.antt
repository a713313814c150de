use Rattle.std.proofs.Common.{◌∙◌, ap, arith}
use Rattle.turn_lock.specs.Views.{half_of}
use Rattle.session_end.proofs.ShareLemmas.{whole_four}
use Rattle.session_end.proofs.seats.ShelfSeats.split.Goals as goal

pub returns : goal.returns
returns c =
    let one = c.in-Ok.ensures.given in
    let two = c.in-Ok-split.ensures.given in
    let three = c.in-Ok-split-2.ensures.given in
    let kept = c.split.ensures.kept in
    let first = c.split-2.ensures.kept in
    let second = c.split-3.ensures.kept in
    let half = first.half_share ∙ ap half_of one.half_share in
    let quarter = two.half_share ∙ ap half_of one.half_share in
    record {
      kept = record {
        same_lock = kept.same_lock;
        same_number = kept.same_number;
        same_setting = kept.same_setting;
        same_mine = kept.same_mine;
      };
      first_above = record {
        same_lock = first.same_lock ∙ one.same_lock;
        later = omega (arith, kept.same_number, first.same_number, one.later_number);
        none_made = first.same_mine ∙ one.none_made;
      };
      second_above = record {
        same_lock = second.same_lock ∙ two.same_lock ∙ one.same_lock;
        later = omega (arith, first.same_number, second.same_number, two.later_number);
        none_made = second.same_mine ∙ two.none_made;
      };
      third_above = record {
        same_lock = three.same_lock ∙ two.same_lock ∙ one.same_lock;
        later = omega (arith, second.same_number, three.later_number);
        none_made = three.none_made;
      };
      whole =
          whole_four _ _ _ _ _ kept.half_share half (second.half_share ∙ ap half_of quarter)
          (three.half_share ∙ ap half_of quarter);
    }
