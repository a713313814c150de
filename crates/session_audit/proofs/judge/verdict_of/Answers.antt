use Rattle.std.proofs.Common.{◌≡◌, ℕ, ap, arith, min, slice_get, sym, ◌∙◌}
use Rattle.std.proofs.lemmas.Option.{slice_get_past}
use Rattle.session_audit.proofs.SaidLemmas.{slice_get-at}
use Rattle.session_audit.proofs.TotalLemmas.{accepted_verdict, left_verdict}
use Rattle.session_audit.proofs.judge.verdict_of.Goals as goal
use Rattle.session_audit.proofs.LeastLemmas.{least_past}

pub returns-then-first-sayings : goal.returns-then-first-sayings
returns-then-first-sayings c w bytes read halts =
    let sayings = c.args.sayings.now in
    let p = c.args.seats.now.plugin in
    let a = c.args.seats.now.agent in
    let first : c.min-first.result ≡ min p.next a.next
    = c.min-first.ensures
    ∙ ap (λ (n : ℕ). min n c.next-2.result) c.next.ensures
    ∙ ap (λ (n : ℕ). min p.next n) c.next-2.ensures in
    let past = c.if-first-sayings.true in
    accepted_verdict w bytes sayings p a c.totals_of.result read halts
    (least_past sayings p a (slice_get_past sayings (min p.next a.next) (omega (arith, first, past))))
    c.totals_of.ensures

pub returns : goal.returns
returns c w bytes read halts =
    let sayings = c.args.sayings.now in
    let p = c.args.seats.now.plugin in
    let a = c.args.seats.now.agent in
    let first : c.min-first.result ≡ min p.next a.next
    = c.min-first.ensures
    ∙ ap (λ (n : ℕ). min n c.next-2.result) c.next.ensures
    ∙ ap (λ (n : ℕ). min p.next n) c.next-2.ensures in
    let it = c.index-sayings-first.result in
    rw c.why_of.ensures
    (left_verdict w bytes sayings p a it read halts
    (ap (λ (n : ℕ). slice_get sayings n) (sym first)
    ∙ slice_get-at sayings c.min-first.result it c.if-first-sayings.false c.index-sayings-first.is))
