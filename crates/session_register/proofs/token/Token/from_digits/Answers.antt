use Rattle.std.proofs.Common.{◌≡◌, Some, sym, ap, ◌∙◌, refl}
use Rattle.std.specs.Cmp.Lexicographic.{bytes_decides}
use Rattle.session_register.specs.declared.token.Token.{Token}
use Rattle.session_register.specs.Tokens.{token_digits, token_of}
use Rattle.session_register.proofs.TokenLemmas.{decodes, token_of-token_bytes}
use Rattle.session_register.proofs.token.Token.from_digits.Goals as goal

pub returns-then-eq-clause-found : goal.returns-then-eq-clause-found
returns-then-eq-clause-found c = λ token fits spelled.
    let bytes = decodes _ _ _ _ token refl (c.as_slice.ensures ∙ spelled) c.in-Ok.ensures.value in
    ap (λ (t : Token). Some t)
    (c.from_bytes-token.ensures ∙ ap token_of bytes.1 ∙ token_of-token_bytes token fits)

pub returns-else-eq-clause-found : goal.returns-else-eq-clause-found
returns-else-eq-clause-found c = λ token fits spelled.
    let bytes = decodes _ _ _ _ token refl (c.as_slice.ensures ∙ spelled) c.in-Ok.ensures.value in
    let is : c.from_bytes-token.result ≡ token =
    c.from_bytes-token.ensures ∙ ap token_of bytes.1 ∙ token_of-token_bytes token fits in
    let same : c.digits.result ≡ c.args.digits.now =
    c.digits.ensures ∙ ap token_digits is ∙ sym spelled in
    let yes = (bytes_decides c.digits.result c.args.digits.now).1 same in
    let no = c.if-eq.ensures in
    absurd (cc)

pub returns-in-Err-clause-found : goal.returns-in-Err-clause-found
returns-in-Err-clause-found c = λ token fits spelled.
    let bytes = decodes _ _ _ _ token refl (c.as_slice.ensures ∙ spelled) c.in-Err.ensures.value in
    let no = bytes.0 in absurd (cc)
