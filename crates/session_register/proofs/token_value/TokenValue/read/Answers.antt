use Rattle.std.proofs.Common.{◌≡◌, Some, sym, ap, ◌∙◌, subst, arith}
use Rattle.session_register.specs.declared.token.Token.{Token}
use Rattle.session_register.specs.Names.{IsSessionName}
use Rattle.session_register.proofs.TokenLemmas.{parts}
use Rattle.session_register.proofs.token_value.TokenValue.read.Goals as goal

pub returns-in_err-front-clause-found : goal.returns-in_err-front-clause-found
returns-in_err-front-clause-found c = λ value is.
    let it = parts value c.args.text.now is in
    let long = it.long in
    absurd (omega (arith, long, c.in_err-front.ensures.cases))

pub returns-in_err-name-clause-found : goal.returns-in_err-name-clause-found
returns-in_err-name-clause-found c = λ value is.
    let it = parts value c.args.text.now is in
    absurd (c.in_err-name.ensures.found value.session value.role
    (c.in_ok-front.ensures.cases.0 ∙ it.front))

pub returns-in_err-session-clause-found : goal.returns-in_err-session-clause-found
returns-in_err-session-clause-found c = λ value is.
    let it = parts value c.args.text.now is in
    let split = c.in_ok-name.ensures.found value.session value.role
    (c.in_ok-front.ensures.cases.0 ∙ it.front) in
    let no = c.in_err-session.ensures.valid.1 (subst IsSessionName (sym split.0) is.named) in
    absurd (cc)

pub returns-in_err-token-clause-found : goal.returns-in_err-token-clause-found
returns-in_err-token-clause-found c = λ value is.
    let it = parts value c.args.text.now is in
    let no = c.in_err-token.ensures.found value.token is.fits
    (c.in_ok-front.ensures.cases.1 ∙ it.digits) in
    absurd (cc)

pub returns-clause-found : goal.returns-clause-found
returns-clause-found c = λ value is.
    let it = parts value c.args.text.now is in
    let split = c.in_ok-name.ensures.found value.session value.role
    (c.in_ok-front.ensures.cases.0 ∙ it.front) in
    let session = c.in_ok-session.ensures.value ∙ split.0 in
    let found = c.in_ok-token.ensures.found value.token is.fits
    (c.in_ok-front.ensures.cases.1 ∙ it.digits) in
    let token : c.in_ok-token.token ≡ value.token = cc in
    λ i. Some (record { session = session i; role = split.1 i; token = token i })
