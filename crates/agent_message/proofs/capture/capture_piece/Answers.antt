use Rattle.std.proofs.Common.{◌≡◌, ◌+◌, ◌++◌, length, sym, ap, subst, ◌∙◌}
use Rattle.std.specs.Int.{w32, to_be_bytes}
use Rattle.agent_message.specs.Heads.{message_with}
use Rattle.agent_message.specs.Layout.{IsEncodable, canonical}
use Rattle.agent_message.proofs.PieceLemmas.{length-canonical}
use Rattle.agent_message.proofs.capture.capture_piece.Goals as goal

pub returns-clause-piece : goal.returns-clause-piece
returns-clause-piece c =
    let m = c.args.message.now in
    let same : message_with c.head.result c.as_slice-payload.result.now ≡ m =
    ap (message_with c.head.result) c.as_slice-payload.ensures ∙ c.head.ensures in
    let can : IsEncodable m = subst IsEncodable same c.in_ok-push_encoding.ensures.encodable in
    let sized : length (canonical m) ≡ 120 + length m.payload = length-canonical m can in
    let size : c.to_be_bytes.result ≡ to_be_bytes w32 (length (canonical m)) =
    c.to_be_bytes.ensures
    ∙ ap (λ n. to_be_bytes w32 (120 + n)) (ap length c.as_slice-payload.ensures)
    ∙ ap (to_be_bytes w32) (sym sized) in
    let front : c.extend_from_slice.new.self.items ≡ to_be_bytes w32 (length (canonical m)) =
    c.in_ok-extend_from_slice.ensures.items
    ∙ ap (λ bytes. bytes ++ c.to_be_bytes.result) c.in_ok-bytes.ensures.items ∙ size in
    c.in_ok-push_encoding.ensures.canonical
    ∙ ap (λ bytes. bytes ++ canonical (message_with c.head.result c.as_slice-payload.result.now))
    front
    ∙ ap (λ n. to_be_bytes w32 (length (canonical m)) ++ canonical n) same
