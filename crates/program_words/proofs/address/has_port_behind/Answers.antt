use Rattle.std.proofs.Common.{◌≡◌, ◌∙◌, sym, Some, None}
use Rattle.std.proofs.lemmas.Bool.{false≢true}
use Rattle.std.proofs.lemmas.Bool.Decides.{Decides-eqb}
use Rattle.std.proofs.lemmas.List.{append_cancel_left}
use Rattle.std.proofs.lemmas.Slice.Eq.{strip_prefix_is}
use Rattle.program_words.proofs.AddressLemmas.{behind_front}
use Rattle.program_words.proofs.address.has_port_behind.Goals as goal

pub returns-in-Some : goal.returns-in-Some
returns-in-Some c =
    let text = c.args.text.now in
    let front = c.args.front.now in
    let whole = strip_prefix_is Decides-eqb text front (Some c.in-Some.port) c.in-Some.ensures.cases in
    rw c.is_some.ensures (behind_front text front c.in-Some.port.now c.read_positive.result whole
    c.read_positive.ensures.found c.read_positive.ensures.none
    (λ e n is. append_cancel_left front _ _ (sym is ∙ whole)))

pub returns-in-None : goal.returns-in-None
returns-in-None c =
    let not_so = strip_prefix_is Decides-eqb c.args.text.now c.args.front.now None
    c.in-None.ensures.cases in
    ((λ t. absurd (false≢true t)), (λ p. absurd (not_so _ p.2)))
