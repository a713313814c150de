use Rattle.std.proofs.Common.{◌≡◌, ℕ, [], ◌∷◌, sym, ap, subst}
use Rattle.channel_core.specs.declared.answer.Pull.{Pull}
use Rattle.channel_core.specs.declared.call.EndAnswer.{EndAnswer}
use Rattle.channel_core.specs.declared.call.EndCall.{EndCall}
use Rattle.turn_lock.specs.declared.seat.Seat.{Seat}
use Rattle.session_run.specs.declared.held.Held.{Held}
use Rattle.session_run.specs.contracts.held.HeldTurn.TheImpl.{ghosts}
use Rattle.session_run.specs.Adds.{AddsCalls}
use Rattle.session_run.proofs.AddsLemmas.{AddsCalls-none, AddsCalls-then}
use Rattle.session_workers.specs.Writing.{CountsFailures, emits, idles, starves}
use Rattle.session_workers.proofs.WritingLemmas.{CountsFailures-none, CountsFailures-sent, Departs-settle}
use Rattle.session_workers.proofs.link_writer.LinkWriter.turn.Goals as goal

-- the pull is known by what it answered
pulled : {a b : Seat Held EndCall EndAnswer ℕ ghosts} {now : ℕ} {pull other : Pull}
    → pull ≡ other
    → AddsCalls a ((EndCall.Pull now, EndAnswer.Pull pull) ∷ []) b
    → AddsCalls a ((EndCall.Pull now, EndAnswer.Pull other) ∷ []) b
pulled {a} {b} {now} is calls =
    subst (λ p. AddsCalls a ((EndCall.Pull now, EndAnswer.Pull p) ∷ []) b) is calls

pub returns-in-Idle : goal.returns-in-Idle
returns-in-Idle g c =
    let rest = c.idle.ensures.1 in (
      idles c.now-now.result c.idle.ensures.0,
      record {
        may = rest.may;
        side = rest.side;
        end = AddsCalls-then _ _ _ _ _ (pulled c.in-Idle.is c.pull.ensures.calls) rest.end;
        shelf = rest.shelf;
        sends = rest.sends;
        counted = rest.counted;
        told = rest.told;
        over = rest.over;
        starved = rest.starved;
      },
    )

pub returns-in-NoMemory : goal.returns-in-NoMemory
returns-in-NoMemory g c =
    let kept = c.give_up.ensures.kept in (
      starves c.now-now.result,
      record {
        may = tt;
        side = ap (λ s. s.side) kept;
        end =
            subst (AddsCalls _ _) (sym (ap (λ s. s.end) kept))
            (pulled c.in-NoMemory.is c.pull.ensures.calls);
        shelf = subst (AddsCalls _ _) (sym (ap (λ s. s.shelf) kept)) (AddsCalls-none _);
        sends = c.give_up.ensures.shut;
        counted =
            subst (CountsFailures _ _) (sym c.give_up.ensures.counted) (CountsFailures-none _);
        told = ap (λ s. s.told) kept;
        over = ap (λ s. s.over) kept;
        starved = c.give_up.ensures.answer;
      },
    )

pub returns : goal.returns
returns g c =
    let kept = c.settle.ensures.kept in
    let sent = c.send_message-sent.ensures in (
      emits c.now-now.result c.in-Emit.out c.send_message-sent.result,
      record {
        may = tt;
        side = ap (λ s. s.side) kept;
        end =
            subst (AddsCalls _ _) (sym (ap (λ s. s.end) kept))
            (pulled c.in-Emit.is c.pull.ensures.calls);
        shelf = subst (AddsCalls _ _) (sym (ap (λ s. s.shelf) kept)) (AddsCalls-none _);
        sends = Departs-settle _ _ _ _ _ sent.sends c.settle.ensures.shut;
        counted =
            subst (CountsFailures _ _) (sym c.settle.ensures.counted)
            (CountsFailures-sent _ _ _ sent.steady sent.failed);
        told = ap (λ s. s.told) kept;
        over = ap (λ s. s.over) kept;
        starved = c.settle.ensures.answer;
      },
    )
