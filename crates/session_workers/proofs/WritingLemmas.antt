-- Sends in several steps, and how they count.
use Rattle.std.proofs.Common.{◌≡◌, ℕ, ◌+◌, ◌-◌, ◌^◌, min, Bool, true, false, Option, Some, None, List, [], ◌++◌, refl, sym, ap, ◌∙◌, subst, append_assoc, arith}
use Rattle.std.specs.Prelude.{Result, Ok, Err, if◌then◌else◌}
use Rattle.std.proofs.lemmas.List.{append-nil}
use Rattle.chan_io.specs.Faults.{IfFailed, Rises, UnlessFailed}
use Rattle.chan_io.specs.LinksOut.{Departures, Shuts}
use Rattle.chan_io.specs.declared.failed.IoFault.{IoFault}
use Rattle.chan_io.specs.declared.got.Got.{Got}
use Rattle.session_workers.specs.Writing.{CountsFailures, Departs, failures}

-- some messages and then others
pub Departs-then : (xs ys : List Got) (shut : Bool) (o m n : Option Departures)
    → Departs xs false o m
    → Departs ys shut m n
    → Departs (xs ++ ys) shut o n
Departs-then xs ys shut None m n first second = subst (λ z. Departs ys shut z n) first second
Departs-then xs ys shut (Some before) m n first second =
    subst (λ z. Departs ys shut z n) first second
    ∙ ap
    (λ (l : List Got). Some (record {
      sent = l;
      shuts = if shut then min (before.shuts + 1) (2 ^ 64 - 1) else before.shuts;
    }))
    (append_assoc before.sent xs ys)

-- some messages, and then the link was shut
pub Departs-shut : (xs : List Got) (o m n : Option Departures)
    → Departs xs false o m
    → Shuts m n
    → Departs xs true o n
Departs-shut xs None m n first shut = subst (λ z. Shuts z n) first shut
Departs-shut xs (Some before) m n first shut = subst (λ z. Shuts z n) first shut

-- some messages and then no more
pub Departs-settle : (xs : List Got) (shut : Bool) (o m n : Option Departures)
    → Departs xs false o m
    → Departs [] shut m n
    → Departs xs shut o n
Departs-settle xs shut o m n first second =
    subst (λ l. Departs l shut o n) (append-nil xs) (Departs-then xs [] shut o m n first second)

-- no messages
pub Departs-none : (o : Option Departures) → Departs [] false o o
Departs-none None = refl
Departs-none (Some before) =
    ap (λ l. Some (record { sent = l; shuts = before.shuts })) (sym (append-nil before.sent))

pub CountsFailures-none : (n : ℕ) → CountsFailures 0 n n
CountsFailures-none n = record { rises = omega arith; stays = λ _. refl }

pub CountsFailures-then : (a b x y z : ℕ)
    → CountsFailures a x y
    → CountsFailures b y z
    → CountsFailures (a + b) x z
CountsFailures-then a b x y z first second = record {
  rises = let p = first.rises in let q = second.rises in omega arith;
  stays = λ (none : a + b ≡ 0).
      let p : a ≡ 0 = omega arith in
      let q : b ≡ 0 = omega arith in
      second.stays q ∙ first.stays p;
}

-- one send
pub CountsFailures-sent : (sent : Result Unit IoFault) (x y : ℕ)
    → UnlessFailed sent (y ≡ x)
    → IfFailed sent (Rises x y)
    → CountsFailures (failures (Some sent)) x y
CountsFailures-sent (Ok done) x y steady failed =
    record { rises = omega (arith, steady); stays = λ _. steady }
CountsFailures-sent (Err IoFault.Failed) x y steady failed =
    record { rises = failed; stays = λ (none : 1 ≡ 0). absurd (omega (arith, none)) }
CountsFailures-sent (Err IoFault.NoMemory) x y steady failed =
    record { rises = omega (arith, steady); stays = λ _. steady }
