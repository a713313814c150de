use Rattle.std.proofs.Common.{◌≡◌, ap, ◌∙◌}
use Rattle.hex.specs.Hex.{encode_lower}
use Rattle.session_register.specs.Tokens.{token_bytes}
use Rattle.relay_desk.proofs.opening.digits.Goals as goal

pub returns : goal.returns
returns c =
    let all : c.as_slice.result.now ≡ token_bytes c.args.token =
    cc (
      c.as_slice.ensures.value,
      c.in_ok-extend_from_slice.ensures.items,
      c.in_ok-bytes.ensures.items,
      c.to_be_bytes.ensures,
      c.to_be_bytes-2.ensures,
    ) in
    c.in_ok-encode.ensures ∙ ap encode_lower all
