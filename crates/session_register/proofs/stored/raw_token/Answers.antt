use Rattle.std.proofs.Common.{◌∙◌, ap}
use Rattle.session_register.specs.Stored.{read_token}
use Rattle.session_register.proofs.TokenLemmas.{read_token-token_bytes}
use Rattle.session_register.proofs.stored.raw_token.Goals as goal

pub returns : goal.returns
returns c =
    ap read_token (c.new.ensures ∙ c.in_ok-from_slice.ensures.items
    ∙ c.to_bytes-bytes.ensures.bytes)
    ∙ read_token-token_bytes c.args.token.now c.requires c.to_bytes-bytes.ensures.fits.1
