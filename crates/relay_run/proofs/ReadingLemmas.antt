-- The turns of a reading worker, one after another.
use Rattle.std.proofs.Common.{◌≡◌, ℕ, true, false, Option, Some, None, List, [], ◌∷◌, ◌++◌, refl, sym, ap, ◌∙◌, subst, append-nil}
use Rattle.std.specs.List.{All, flat_map}
use Rattle.std.proofs.lemmas.Grind.{flat_map-append}
use Rattle.std.proofs.lemmas.List.Elements.{All-nil, All-push}
use Rattle.chan_io.specs.LinksIn.{Arrivals}
use Rattle.turn_lock.specs.declared.seat.Seat.{Seat}
use Rattle.turn_lock.specs.declared.value.Turn.{Ghosts}
use Rattle.session_run.specs.Adds.{AddsCalls}
use Rattle.session_run.proofs.AddsLemmas.{AddsCalls-none, AddsCalls-then}
use Rattle.relay_core.specs.declared.event.Event.{Event}
use Rattle.relay_desk.specs.declared.desk_call.DeskAnswer.{DeskAnswer}
use Rattle.relay_desk.specs.declared.desk_call.DeskCall.{DeskCall}
use Rattle.relay_desk.specs.declared.heard.Heard.{Heard}
use Rattle.relay_desk.specs.declared.inlet.Inlet.{Inlet}
use Rattle.relay_desk.specs.Desks.{DeskStep}
use Rattle.relay_desk.specs.Hearing.{MayHear, Stepping, is_last_heard, stepping_desk, stepping_end, stepping_switch, steps, undrawn}
use Rattle.relay_desk.specs.InletTurns.{got_in, MayRead, Reading, Reads, StepsEvent, hears, reading_desk, reading_end, reading_switch, starves}
use Rattle.relay_switch.specs.Switching.{Step}
use Rattle.relay_run.specs.Receiving.{ReadAll, ReadSome, last_end, leaving_desk, leaving_switch}

one : {X A : Type 0} (f : X → List A) (x : X) → flat_map f (x ∷ []) ≡ f x
one f x = append-nil (f x)

pushed : {X A : Type 0} (f : X → List A) (xs : List X) (x : X)
    → flat_map f (xs ++ x ∷ []) ≡ flat_map f xs ++ f x
pushed f xs x = flat_map-append f xs (x ∷ []) ∙ ap (λ l. flat_map f xs ++ l) (one f x)

-- the loss of a connection is the last step, and so is a failure
left-last : (s : Stepping) → is_last_heard (stepping_end Heard.Gone s) ≡ true
left-last (undrawn fault) = refl
left-last (steps id now true) = refl
left-last (steps id now false) = refl

-- a turn that may be made is one that might have been made at first
may_first : {N : Type 0} (old mid : Inlet N) (r : Reading)
    → mid.conn ≡ old.conn
    → mid.session ≡ old.session
    → mid.role ≡ old.role
    → MayRead mid r
    → MayRead old r
may_first old mid starves conn session role may = tt
may_first old mid (hears came hearing) conn session role may =
    subst (λ x. MayHear x old.session old.role (got_in came) hearing) conn
    (subst (λ x. MayHear mid.conn x old.role (got_in came) hearing) session
    (subst (λ x. MayHear mid.conn mid.session x (got_in came) hearing) role may))

module _ {N D T : Type 0} {g : Ghosts D DeskCall DeskAnswer T} where
  -- before the first turn
  pub ReadSome-none : (old : Inlet N) (desk : Seat D DeskCall DeskAnswer T g)
      → old.over ≡ false
      → ReadSome old desk [] old desk
  ReadSome-none old desk over = record {
    may = All-nil (MayRead old);
    went = All-nil (λ (r : Reading). is_last_heard (reading_end r) ≡ false);
    conn = refl;
    session = refl;
    role = refl;
    over = over;
    seat = AddsCalls-none old.seat;
    desk = AddsCalls-none desk;
  }

  module _ (arrivals : N → Option Arrivals) (faults : N → ℕ) (old mid new : Inlet N)
      (d0 d1 d2 : Seat D DeskCall DeskAnswer T g) (going : List Reading) (r : Reading)
      (heard : Heard) (some : ReadSome old d0 going mid d1)
      (turn : Reads arrivals faults mid r new heard)
      (asked : AddsCalls d1 (reading_desk mid.session r) d2) where
    seat_more : AddsCalls old.seat (flat_map reading_switch (going ++ r ∷ [])) new.seat
    seat_more =
        subst (λ calls. AddsCalls old.seat calls new.seat) (sym (pushed reading_switch going r))
        (AddsCalls-then old.seat mid.seat new.seat (flat_map reading_switch going)
        (reading_switch r) some.seat turn.makes.seat)

    desk_more : AddsCalls d0 (flat_map (reading_desk old.session) (going ++ r ∷ [])) d2
    desk_more =
        subst (λ calls. AddsCalls d0 calls d2) (sym (pushed (reading_desk old.session) going r))
        (AddsCalls-then d0 d1 d2 (flat_map (reading_desk old.session) going)
        (reading_desk old.session r) some.desk
        (subst (λ s. AddsCalls d1 (reading_desk s r) d2) some.session asked))

    may_more : All (MayRead old) (going ++ r ∷ [])
    may_more =
        All-push (MayRead old) going r some.may
        (may_first old mid r some.conn some.session some.role turn.may)

    -- one turn more that is not the last
    pub ReadSome-more : new.over ≡ false → ReadSome old d0 (going ++ r ∷ []) new d2
    ReadSome-more on = record {
      may = may_more;
      went =
          All-push (λ (x : Reading). is_last_heard (reading_end x) ≡ false) going r some.went
          (ap is_last_heard (sym turn.comes) ∙ sym turn.makes.over ∙ on);
      conn = turn.makes.conn ∙ some.conn;
      session = turn.makes.session ∙ some.session;
      role = turn.makes.role ∙ some.role;
      over = on;
      seat = seat_more;
      desk = desk_more;
    }

    -- the last turn
    pub ReadAll-last : new.over ≡ true → ReadAll old d0 heard new d2
    ReadAll-last over = record {
      going = going;
      last = r;
      left = None;
      went = some.went;
      may = may_more;
      conn = turn.makes.conn ∙ some.conn;
      session = turn.makes.session ∙ some.session;
      role = turn.makes.role ∙ some.role;
      over = over;
      seat = subst (λ calls. AddsCalls old.seat calls new.seat) (sym (append-nil _)) seat_more;
      desk = subst (λ calls. AddsCalls d0 calls d2) (sym (append-nil _)) desk_more;
      comes = turn.comes;
      ends = sym turn.makes.over ∙ over;
    }

    -- the drop behind a turn
    pub ReadAll-left : (last : Inlet N) (d3 : Seat D DeskCall DeskAnswer T g) (s : Stepping)
        (came : Heard)
        → StepsEvent new (Event.Gone new.conn) Heard.Gone s last came
        → AddsCalls d2 (stepping_desk s) d3
        → ReadAll old d0 came last d3
    ReadAll-left last d3 s came left drawn =
        let conn : new.conn ≡ old.conn = turn.makes.conn ∙ some.conn in
        let is : is_last_heard came ≡ true = ap is_last_heard left.comes ∙ left-last s in
        record {
          going = going;
          last = r;
          left = Some s;
          went = some.went;
          may = may_more;
          conn = left.makes.conn ∙ conn;
          session = left.makes.session ∙ turn.makes.session ∙ some.session;
          role = left.makes.role ∙ turn.makes.role ∙ some.role;
          over = left.makes.over ∙ is;
          seat =
              AddsCalls-then old.seat new.seat last.seat
              (flat_map reading_switch (going ++ r ∷ [])) (leaving_switch old.conn (Some s)) seat_more
              (subst (λ n. AddsCalls new.seat (stepping_switch (Event.Gone n) s) last.seat) conn
              left.makes.seat);
          desk =
              AddsCalls-then d0 d2 d3 (flat_map (reading_desk old.session) (going ++ r ∷ []))
              (leaving_desk (Some s)) desk_more drawn;
          comes = left.comes;
          ends = is;
        }
