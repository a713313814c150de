-- One turn more of a resend worker.
use Rattle.std.proofs.Common.{◌≡◌, ℕ, Bool, false, Option, None, List, [], ◌∷◌, ◌++◌, sym, ap, subst}
use Rattle.channel_core.specs.Numbers.{or_else}
use Rattle.turn_lock.proofs.RunLemmas.{goes_on}
use Rattle.session_workers.specs.declared.resender.Resender.{Resender}
use Rattle.session_run.specs.Adds.{AddsCalls}
use Rattle.session_workers.specs.ResendRuns.{MayResend, Resends, Resent, none_resent, resent_after}
use Rattle.session_workers.specs.Resends.{ResendTurn, ResendsOnce, resend_calls}
use Rattle.session_run.proofs.AddsLemmas.{AddsCalls-none, AddsCalls-then}
use Rattle.session_workers.proofs.WriterRunLemmas.{flat_map-push}

pub Resends-none : (r : Resender) → r.over ≡ false → Resends r [] None r
Resends-none r new = record {
  may = tt;
  progress = ap (λ (over : Bool). record { over = over; gave_up = None }) new;
  end = AddsCalls-none r.end;
}

pub Resends-more : (old mid new : Resender) (turns : List ResendTurn) (turn : ResendTurn)
    (gave answer : Option ℕ)
    → mid.over ≡ false
    → Resends old turns gave mid
    → ResendsOnce mid turn new answer
    → Resends old (turns ++ turn ∷ []) (or_else gave answer) new
Resends-more old mid new turns turn gave answer on so once =
    let gave' : Option ℕ = or_else gave answer in
    let now : Resent = record { over = mid.over; gave_up = gave } in
    let next : Resent = record { over = new.over; gave_up = gave' } in
    let is : next ≡ resent_after now turn =
    λ i. record { over = once.over i; gave_up = or_else gave (once.answer i) } in
    let run =
    goes_on resent_after MayResend none_resent now next turns turn so.may so.progress on is in
    record {
      may = run.0;
      progress = run.1;
      end =
          subst (λ l. AddsCalls old.end l new.end) (sym (flat_map-push resend_calls turns turn))
          (AddsCalls-then old.end mid.end new.end _ (resend_calls turn) so.end once.end);
    }
