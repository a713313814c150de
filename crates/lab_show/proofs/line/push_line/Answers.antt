use Rattle.std.proofs.Common.{◌≡◌, ◌++◌, decimal, rules, ap, length, refl, ◌∙◌}
use Rattle.std.specs.Fmt.{signed_decimal}
use Rattle.lab_show.proofs.LineLemmas.{line_text, put_behind}
use Rattle.lab_show.proofs.line.push_line.Goals as goal

pub returns : goal.returns
returns c =
    let out = c.args.out.now.items in
    let m = c.args.message.now in
    let e1 = c.in_ok-extend_from_slice.ensures.items in
    let e2 = put_behind out _ _ e1 c.in_ok-push_word.ensures in
    let e3 = put_behind out _ _ e2 c.in_ok-push_word-2.ensures in
    let e4 = put_behind out _ _ e3 c.in_ok-push_word-3.ensures in
    let e5 = put_behind out _ _ e4 c.in_ok-push_word-4.ensures in
    let e6 = put_behind out _ _ e5 c.in_ok-push_word-5.ensures in
    let e7 = put_behind out _ _ e6 c.in_ok-push_id.ensures in
    let e8 = put_behind out _ _ e7 c.in_ok-push.ensures.items in
    let at : c.as_bytes.result.now ≡ decimal c.args.at =
    c.as_bytes.ensures.value ∙ c.format.ensures.text in
    let name : c.as_bytes-2.result.now ≡ m.name = c.as_bytes-2.ensures.value in
    let seq : c.as_bytes-3.result.now ≡ signed_decimal m.seq =
    c.as_bytes-3.ensures.value ∙ search rules in
    let flags : c.as_bytes-4.result.now ≡ decimal m.flags =
    c.as_bytes-4.ensures.value ∙ search rules in
    let ptype : c.as_bytes-5.result.now ≡ decimal m.ptype =
    c.as_bytes-5.ensures.value ∙ search rules in
    let size : c.as_bytes-6.result.now ≡ decimal (length m.payload) =
    c.as_bytes-6.ensures.value ∙ search rules in
    e8 ∙ ap (λ text. out ++ text) (line_text _ _ _ _ _ _ _
    ∙ rw (at, name, seq, flags, ptype, size) refl)
