use Rattle.std.proofs.Common.{sym, ap, ◌∙◌, length}
use Rattle.relay_desk.specs.Admissions.{admission_calls}
use Rattle.relay_accept.specs.Seats.{locks_of}
use Rattle.relay_accept.proofs.SeatLemmas.{written_back}
use Rattle.relay_accept.proofs.EndLemmas.{EndsBy-behind}
use Rattle.relay_accept.proofs.serve.serve.Goals as goal

pub returns-in-Accepted-clause-served : goal.returns-in-Accepted-clause-served
returns-in-Accepted-clause-served g c = record {
  ends =
      EndsBy-behind _ _ _ (admission_calls c.admit.ensures.0) _ _ _ c.admit.ensures.1.calls
      (λ s. s) c.let_in.ensures.ends;
  switches =
      ap locks_of
      (written_back c.let_in.new.seats c.args.seats.now.switches.items
      c.args.seats.now.switches.len (sym c.args.seats.now.switches.ok.0)
      (c.let_in.auto.seats ∙ ap length c.as_mut_slice.ensures.value))
      ∙ c.let_in.ensures.switches
      ∙ ap locks_of c.as_mut_slice.ensures.value;
}
