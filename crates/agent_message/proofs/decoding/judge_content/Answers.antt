use Rattle.std.proofs.Common.{◌≡◌, ◌<◌, true, inl, inr, sym, ap, ◌∙◌, subst, arith}
use Rattle.std.specs.Int.{w64}
use Rattle.sha2.specs.Sha256.{sha256}
use Rattle.agent_message.specs.Fields.{number_at, name_field, payload_in, digest_field}
use Rattle.agent_message.specs.Names.{IsPublication, name_of}
use Rattle.agent_message.proofs.Faults.{past_date, past_digest, rest_is, digests_agree, digests_differ, payload_is_empty, payload_is_not_empty}
use Rattle.agent_message.proofs.decoding.judge_content.Goals as goal

pub returns-then-is_empty-clause-faultless : goal.returns-then-is_empty-clause-faultless
returns-then-is_empty-clause-faultless c =
    let bytes = c.args.bytes.now in
    let dated : 0 < number_at w64 40 bytes =
    omega (arith, c.u64_at.ensures, c.if-u64_at-eq0.false) in
    past_digest bytes (past_date bytes c.requires.faultless (inl dated))
    (inr (inl (payload_is_empty bytes c.is_empty.result c.is_empty.ensures c.if-is_empty.true)))

pub returns-then-ne-clause-refused : goal.returns-then-ne-clause-refused
returns-then-ne-clause-refused c =
    let bytes = c.args.bytes.now in
    let dated : 0 < number_at w64 40 bytes =
    omega (arith, c.u64_at.ensures, c.if-u64_at-eq0.false) in
    let other : ¬ IsPublication (name_of (name_field bytes)) = λ publication.
    let yes : c.is_publication.result ≡ true =
    c.is_publication.ensures.1 (subst IsPublication (sym c.requires.named) publication) in
    absurd cc in (
      (
        c.array_at-said.ensures,
        c.digest-computed.ensures ∙ ap sha256 (rest_is bytes),
        digests_differ _ _ c.ne.result c.ne.ensures c.if-ne.true,
        payload_is_not_empty bytes c.is_empty.result c.is_empty.ensures c.if-is_empty.false,
        other,
      ),
      past_date bytes c.requires.faultless (inl dated),
    )

pub returns-clause-faultless : goal.returns-clause-faultless
returns-clause-faultless c =
    let bytes = c.args.bytes.now in
    let dated : 0 < number_at w64 40 bytes =
    omega (arith, c.u64_at.ensures, c.if-u64_at-eq0.false) in
    let same : digest_field bytes ≡ sha256 (payload_in bytes) =
    sym c.array_at-said.ensures ∙ digests_agree _ _ c.ne.result c.ne.ensures c.if-ne.false
    ∙ c.digest-computed.ensures ∙ ap sha256 (rest_is bytes) in
    past_digest bytes (past_date bytes c.requires.faultless (inl dated)) (inl same)
