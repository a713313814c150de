use Rattle.channel_core.proofs.WireLemmas.{length-ack}
use Rattle.channel_core.proofs.wire.encode.ack_bytes.Goals as goal

pub encode_parts-requires-clause-sized : goal.encode_parts-requires-clause-sized
encode_parts-requires-clause-sized c =
    rw (c.as_slice.ensures.value, c.in_ok-payload.ensures.text, c.in_ok-body.ensures)
    (length-ack c.args.side c.args.seq c.args.id.now c.requires.small)
