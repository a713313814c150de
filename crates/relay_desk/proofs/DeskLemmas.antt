-- The histories of a desk: one call more.
use Rattle.std.proofs.Common.{◌≡◌, ℕ, ◌+◌, ◌-◌, ◌^◌, ◌≤◌, min, Bool, true, false, ◌||◌, Option, Some, None, Result, Ok, Err, List, [], ◌∷◌, ◌++◌, refl, sym, ap, subst, ◌∙◌, append-nil, arith}
use Rattle.std.specs.List.{cons_option, filter_map, list_any}
use Rattle.std.specs.Result.{IfOk, IsErrOf, OnErr}
use Rattle.std.proofs.lemmas.List.Elements.{All-nil, All-push, filter_map-append}
use Rattle.std.proofs.lemmas.List.Folds.{list_any-append}
use Rattle.chan_io.specs.Draws.{Draws}
use Rattle.chan_io.specs.Faults.{Rises}
use Rattle.chan_io.specs.declared.failed.Failed.{Failed}
use Rattle.chan_io.specs.declared.failed.IoFault.{IoFault}
use Rattle.session_register.specs.declared.register.Register.{Register}
use Rattle.session_register.specs.declared.row.Row.{Row}
use Rattle.session_register.specs.Rows.{Entry, Meets}
use Rattle.session_register.specs.Chains.{Leads}
use Rattle.relay_desk.specs.declared.desk.Began.{Began}
use Rattle.relay_desk.specs.declared.desk.Desk.{Desk}
use Rattle.relay_desk.specs.declared.desk_call.DeskCall.{DeskCall}
use Rattle.relay_desk.specs.declared.desk_call.DeskAnswer.{DeskAnswer}
use Rattle.relay_desk.specs.Desks.{DeskStep, GivesTold, IsDeskAnswer, IsLegalDesk, LeadsTold, StandsForDesk, bytes_drawn, draws_made, is_draw_fault, is_store_fault, register_entries, register_entry}
use Rattle.relay_desk.specs.Kept.{DeskFollows, Keeps, began_of}
use Rattle.relay_desk.proofs.DrawLemmas.{draws_made-push, given-by, none-given, still-given}

register_entries-push : (h : List DeskStep) (s : DeskStep)
    → register_entries (h ++ s ∷ [])
    ≡ register_entries h ++ cons_option (register_entry s.0 s.1) []
unfolding register_entries
register_entries-push h s =
    filter_map-append (λ (x : DeskStep). register_entry x.0 x.1) h (s ∷ [])

register_entries-nil : register_entries [] ≡ []
unfolding register_entries
register_entries-nil = refl

-- ---- the rows

leads-push : (rows mid new : List Row) (cs : List Entry) (entry : Entry) → Leads rows cs mid
    → Meets entry (Some mid) (Some new)
    → Leads rows (cs ++ entry ∷ []) new
leads-push rows mid new [] entry leads meets =
    (new, subst (λ (r : List Row). Meets entry (Some r) (Some new)) leads meets, refl)
leads-push rows mid new (c ∷ cs) entry leads meets =
    (leads.0, leads.1, leads-push leads.0 mid new cs entry leads.2 meets)

led-push : (first now new : Option (List Row)) (cs : List Entry) (entry : Entry)
    → LeadsTold first cs now
    → Meets entry now new
    → LeadsTold first (cs ++ entry ∷ []) new
led-push None now new cs entry led meets = subst (λ n. Meets entry n new) led meets
led-push (Some rows) now new cs entry led meets =
    let more : Meets entry (Some led.0) new = subst (λ n. Meets entry n new) led.1 meets in
    let after = more.1 in (
      after.0,
      after.1,
      leads-push rows led.0 after.0 cs entry led.2 (more.0, (after.0, refl, after.2)),
    )

-- ---- a call, by what it does to the rows and the counts

-- a count that rose before or now has risen
risen : (a b : Bool) (began was now : ℕ) → began ≤ was → was ≤ now
    → (a ≡ true → Rises began was)
    → (b ≡ true → Rises was now)
    → (a || (b || false)) ≡ true
    → Rises began now
risen true b began was now more on before here is =
    let r : min (began + 1) (2 ^ 64 - 1) ≤ was = before refl in omega (arith, r, on)
risen false true began was now more on before here is =
    let r : min (was + 1) (2 ^ 64 - 1) ≤ now = here refl in omega (arith, r, more)
risen false false began was now more on before here is = cc

pub record Effect (call : DeskCall) (answer : DeskAnswer) (rows new : Option (List Row))
    (store store_now : ℕ) (draws draws_now : Option (List (List ℕ))) (draw draw_now : ℕ)
    : Type 0 where
  pub kind : IsDeskAnswer call answer
  pub led : (first : Option (List Row)) (cs : List Entry) → LeadsTold first cs rows
      → LeadsTold first (cs ++ cons_option (register_entry call answer) []) new
  pub given : (first : Option (List (List ℕ))) (made : List (List ℕ)) → GivesTold first made draws
      → GivesTold first (made ++ cons_option (bytes_drawn answer) []) draws_now
  pub store_on : store ≤ store_now
  pub draw_on : draw ≤ draw_now
  pub store_fails : is_store_fault answer ≡ true → Rises store store_now
  pub draw_fails : is_draw_fault answer ≡ true → Rises draw draw_now

-- whatever legal history the desk stood for, with this entry it is legal, and the desk stands for it
pub goes : (began : Began) (call : DeskCall) (answer : DeskAnswer) (rows new : Option (List Row))
    (store store_now : ℕ) (draws draws_now : Option (List (List ℕ))) (draw draw_now : ℕ)
    → Effect call answer rows new store store_now draws draws_now draw draw_now
    → (h : List DeskStep)
    → IsLegalDesk began h
    → StandsForDesk began rows store draws draw h
    → IsLegalDesk began (h ++ (call, answer) ∷ [])
    × StandsForDesk began new store_now draws_now draw_now (h ++ (call, answer) ∷ [])
goes began call answer rows new store store_now draws draws_now draw draw_now e h legal stands =
    let led : LeadsTold began.rows (register_entries (h ++ (call, answer) ∷ [])) new =
    subst (λ cs. LeadsTold began.rows cs new) (sym (register_entries-push h (call, answer)))
    (e.led began.rows (register_entries h) stands.led) in
    let given : GivesTold began.draws (draws_made (h ++ (call, answer) ∷ [])) draws_now =
    subst (λ made. GivesTold began.draws made draws_now)
    (sym (draws_made-push h (call, answer)))
    (e.given began.draws (draws_made h) stands.given) in (
      record {
        kinds = All-push (λ (s : DeskStep). IsDeskAnswer s.0 s.1) h (call, answer) legal.kinds e.kind;
        rows = new;
        led = led;
        draws = draws_now;
        given = given;
      },
      record {
        led = led;
        given = given;
        store_counted = omega (arith, stands.store_counted, e.store_on);
        draw_counted = omega (arith, stands.draw_counted, e.draw_on);
        store_failed = λ is.
            risen (list_any (λ (s : DeskStep). is_store_fault s.1) h) (is_store_fault answer)
            began.store_faults store store_now stands.store_counted e.store_on
            stands.store_failed e.store_fails
            (sym (list_any-append (λ (s : DeskStep). is_store_fault s.1) h ((call, answer) ∷ []))
            ∙ is);
        draw_failed = λ is.
            risen (list_any (λ (s : DeskStep). is_draw_fault s.1) h) (is_draw_fault answer)
            began.draw_faults draw draw_now stands.draw_counted e.draw_on
            stands.draw_failed e.draw_fails
            (sym (list_any-append (λ (s : DeskStep). is_draw_fault s.1) h ((call, answer) ∷ []))
            ∙ is);
      },
    )

-- a call that makes no entry of the register changes no rows
still-led : (first now new : Option (List Row)) (cs : List Entry) → new ≡ now
    → LeadsTold first cs now
    → LeadsTold first (cs ++ []) new
still-led first now new cs same led =
    subst (λ c. LeadsTold first c new) (sym (append-nil cs))
    (subst (λ n. LeadsTold first cs n) (sym same) led)

-- a call of the register, by its entry and its answer
module _ {X : Type 0} (call : DeskCall) (wrap : Result X IoFault → DeskAnswer) (entry : X → Entry)
    (kind : (r : Result X IoFault) → IsDeskAnswer call (wrap r))
    (entered : (x : X) → register_entry call (wrap (Ok x)) ≡ Some (entry x))
    (none : (f : IoFault) → register_entry call (wrap (Err f)) ≡ None)
    (fine : (x : X) → is_store_fault (wrap (Ok x)) ≡ false)
    (starved : is_store_fault (wrap (Err IoFault.NoMemory)) ≡ false)
    (no_draw : (r : Result X IoFault) → is_draw_fault (wrap r) ≡ false)
    (no_bytes : (r : Result X IoFault) → bytes_drawn (wrap r) ≡ None) where
  still-given-by : (r : Result X IoFault) (draws first : Option (List (List ℕ)))
      (made : List (List ℕ))
      → GivesTold first made draws
      → GivesTold first (made ++ cons_option (bytes_drawn (wrap r)) []) draws
  still-given-by r draws first made given =
      subst (λ o. GivesTold first (made ++ cons_option o []) draws) (sym (no_bytes r))
      (still-given first draws draws made refl given)

  pub asked : (r : Result X IoFault) (rows new : Option (List Row)) (store store_now : ℕ)
      (draws : Option (List (List ℕ))) (draw : ℕ)
      → IfOk r (λ x. Meets (entry x) rows new)
      → OnErr r (new ≡ rows)
      → (IsErrOf r IoFault.Failed → Rises store store_now)
      → store ≤ store_now
      → Effect call (wrap r) rows new store store_now draws draws draw draw
  asked (Ok x) rows new store store_now draws draw meets same failed on =
      record {
        kind = kind (Ok x);
        given = still-given-by (Ok x) draws;
        led = λ first cs led.
            subst (λ o. LeadsTold first (cs ++ cons_option o []) new) (sym (entered x))
            (led-push first rows new cs (entry x) led meets);
        store_on = on;
        draw_on = omega arith;
        store_fails = λ is. let not = fine x in cc (is, not);
        draw_fails = λ is. let not = no_draw (Ok x) in cc (is, not);
      }
  asked (Err IoFault.Failed) rows new store store_now draws draw meets same failed on =
      record {
        kind = kind (Err IoFault.Failed);
        given = still-given-by (Err IoFault.Failed) draws;
        led = λ first cs led.
            subst (λ o. LeadsTold first (cs ++ cons_option o []) new) (sym (none IoFault.Failed))
            (still-led first rows new cs same led);
        store_on = on;
        draw_on = omega arith;
        store_fails = λ is. failed refl;
        draw_fails = λ is. let not = no_draw (Err IoFault.Failed) in cc (is, not);
      }
  asked (Err IoFault.NoMemory) rows new store store_now draws draw meets same failed on =
      record {
        kind = kind (Err IoFault.NoMemory);
        given = still-given-by (Err IoFault.NoMemory) draws;
        led = λ first cs led.
            subst (λ o. LeadsTold first (cs ++ cons_option o []) new) (sym (none IoFault.NoMemory))
            (still-led first rows new cs same led);
        store_on = on;
        draw_on = omega arith;
        store_fails = λ is. cc (is, starved);
        draw_fails = λ is. let not = no_draw (Err IoFault.NoMemory) in cc (is, not);
      }

-- what holds at any answer holds at a failure
pub on-err : {X P : Type 0} (r : Result X IoFault) → P → OnErr r P
on-err (Ok x) holds = tt
on-err (Err f) holds = holds

-- a draw
pub drawn : (r : Result (List ℕ) Failed) (rows : Option (List Row)) (store : ℕ)
    (draws draws_now : Option (List (List ℕ))) (draw draw_now : ℕ)
    → Draws r draws draws_now
    → OnErr r (Rises draw draw_now)
    → draw ≤ draw_now
    → Effect DeskCall.Draw (DeskAnswer.Draw r) rows rows store store draws draws_now draw draw_now
drawn r rows store draws draws_now draw draw_now gives fails on =
    record {
      kind = tt;
      given = λ first made given. given-by r first made draws draws_now gives given;
      led = λ first cs led. still-led first rows rows cs refl led;
      store_on = omega arith;
      draw_on = on;
      store_fails = λ is. cc;
      draw_fails = λ is. on_err r fails is;
    }
  where
    on_err : (r : Result (List ℕ) Failed) → OnErr r (Rises draw draw_now)
        → is_draw_fault (DeskAnswer.Draw r) ≡ true
        → Rises draw draw_now
    on_err (Ok d) fails is = cc
    on_err (Err f) fails is = fails

none-led : (rows : Option (List Row)) → LeadsTold rows (register_entries []) rows
none-led rows = subst (λ cs. LeadsTold rows cs rows) (sym register_entries-nil) (by rows)
  where
    by : (rows : Option (List Row)) → LeadsTold rows [] rows
    by None = refl
    by (Some r) = (r, refl, refl)

-- a desk that was just made stands for no calls
pub none-legal : (began : Began) → IsLegalDesk began []
none-legal began =
    record {
      kinds = All-nil (λ (s : DeskStep). IsDeskAnswer s.0 s.1);
      rows = began.rows;
      led = none-led began.rows;
      draws = began.draws;
      given = none-given began.draws;
    }

pub none-stands : (began : Began)
    → StandsForDesk began began.rows began.store_faults began.draws began.draw_faults []
none-stands began =
    record {
      led = none-led began.rows;
      given = none-given began.draws;
      store_counted = omega arith;
      draw_counted = omega arith;
      store_failed = λ is. cc;
      draw_failed = λ is. cc;
    }

pub new-stands : {K E : Type 0} (rows : K → Option (List Row)) (store_faults : K → ℕ)
    (draws : E → Option (List (List ℕ))) (draw_faults : E → ℕ) (desk : Desk K E)
    → desk.register_then.value ≡ desk.register
    → desk.entropy_then.value ≡ desk.entropy
    → Keeps rows store_faults draws draw_faults desk []
new-stands {K} {E} rows store_faults draws draw_faults desk same drawn =
    let began : Began = began_of rows store_faults draws draw_faults desk in
    let then : Register K = desk.register_then.value in
    subst
    (λ (r : Register K).
    StandsForDesk began (rows r.keeper) (store_faults r.keeper) (draws desk.entropy)
    (draw_faults desk.entropy) [])
    same
    (subst
    (λ (e : E).
    StandsForDesk began (rows then.keeper) (store_faults then.keeper) (draws e) (draw_faults e) [])
    drawn (none-stands began))

-- what a call was answered, by another name of the call
pub follows-as : {K E : Type 0} (rows : K → Option (List Row)) (store_faults : K → ℕ)
    (draws : E → Option (List (List ℕ))) (draw_faults : E → ℕ) (old new : Desk K E)
    (call other : DeskCall) (answer : DeskAnswer)
    → call ≡ other
    → DeskFollows rows store_faults draws draw_faults old new other answer
    → DeskFollows rows store_faults draws draw_faults old new call answer
follows-as rows store_faults draws draw_faults old new call other answer is follows =
    subst (λ c. DeskFollows rows store_faults draws draw_faults old new c answer) (sym is) follows
