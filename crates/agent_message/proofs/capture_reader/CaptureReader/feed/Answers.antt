use Rattle.std.proofs.Common.{◌≡◌, ◌<◌, true, length, refl, sym, ap, subst, ◌∙◌, arith}
use Rattle.std.specs.Prelude.{is_some}
use Rattle.std.proofs.lemmas.List.{append-nil}
use Rattle.agent_message.specs.CaptureReading.{StandsFor, missing}
use Rattle.agent_message.proofs.ReaderLemmas.{goes_on, stays_broken, still_unfinished, unfinished}
use Rattle.agent_message.proofs.capture_reader.CaptureReader.feed.Goals as goal

pub returns-then-is_some-clause-read : goal.returns-then-is_some-clause-read
returns-then-is_some-clause-read c before given s =
    let broken : is_some c.args.self.now.fault ≡ true =
    ap (λ p. is_some p.fault) (sym c.self.view_is) ∙ sym c.if-is_some.ensures in
    rw (c.nothing.ensures.messages, append-nil)
    (stays_broken c.args.self.now before c.args.bytes.now given s broken)

pub returns-then-bytes-self-clause-read : goal.returns-then-bytes-self-clause-read
returns-then-bytes-self-clause-read c before given s =
    let s' = subst (λ p. StandsFor p before given) (sym c.self.view_is) s in
    let known = c.self.invariant.1 (omega (arith, c.if-bytes-self.true)) in
    let few : length c.args.bytes.now < missing c.self.inside.rest.items =
    subst (λ n. length c.args.bytes.now < n) known.1 c.if-bytes-self.true in
    let is = still_unfinished c.self.inside.rest.items c.args.bytes.now
    (unfinished _ before given s' known.0) few in
    rw (c.none.ensures, append-nil)
    (goes_on _ _ before c.args.bytes.now given s' known.0 is c.in_ok-append.ensures.ok
    refl known.0)
