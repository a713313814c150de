use Rattle.std.proofs.Common.{◌++◌, FitsSigned, rules, ap, refl, ◌∙◌}
use Rattle.std.specs.Int.{w64, to_be_bytes, cast_unsigned}
use Rattle.std.proofs.lemmas.Int.{to_z-of_z}
use Rattle.agent_message.proofs.Parts.{put_behind, same_parts}
use Rattle.agent_message.proofs.encoding.push_encoding.Goals as goal

pub returns-clause-canonical : goal.returns-clause-canonical
returns-clause-canonical c =
    let out = c.args.out.now.items in
    let fits : FitsSigned w64 c.args.head.now.seq = search rules in
    let seq = ap (λ n. to_be_bytes w64 (cast_unsigned w64 n)) (to_z-of_z w64 _ fits) in
    let e1 = c.in_ok-extend_from_slice.ensures.items in
    let e2 = put_behind out _ _ e1 c.in_ok-extend_from_slice-2.ensures.items in
    let e3 = put_behind out _ _ e2 c.in_ok-extend_from_slice-3.ensures.items in
    let e4 = put_behind out _ _ e3 c.in_ok-extend_from_slice-4.ensures.items in
    let e5 = put_behind out _ _ e4 c.in_ok-extend_from_slice-5.ensures.items in
    let e6 = put_behind out _ _ e5 c.in_ok-extend_from_slice-6.ensures.items in
    let e7 = put_behind out _ _ e6 c.in_ok-extend_from_slice-7.ensures.items in
    let e8 = put_behind out _ _ e7 c.in_ok-extend_from_slice-8.ensures.items in
    let e9 = put_behind out _ _ e8 c.in_ok-extend_from_slice-9.ensures.items in
    let e10 = put_behind out _ _ e9 c.in_ok-extend_from_slice-10.ensures.items in
    let e11 = put_behind out _ _ e10 c.in_ok-extend_from_slice-11.ensures.items in
    let e12 = put_behind out _ _ e11 c.in_ok-extend_from_slice-12.ensures.items in
    e12 ∙ ap (λ parts. out ++ parts)
    (same_parts
    c.to_be_bytes.ensures
    c.as_field.ensures.value
    c.to_be_bytes-2.ensures
    c.to_be_bytes-3.ensures
    (c.to_be_bytes-4.ensures ∙ seq)
    c.to_be_bytes-5.ensures
    refl
    refl
    c.digest-digest.ensures
    c.to_be_bytes-6.ensures
    c.to_be_bytes-7.ensures
    refl)

pub returns-clause-encodable : goal.returns-clause-encodable
returns-clause-encodable c = record {
  message = record {
    name = c.as_field.ensures.valid;
    schema = search rules;
    date = search rules;
    seq = search rules;
    flags = search rules;
    id = search rules;
    ptype = search rules;
  };
  sized = c.requires.sized;
  dated = c.requires.dated;
}
