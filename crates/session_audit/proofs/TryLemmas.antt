-- What became of an act that was tried, as the end and the marks tell it.
use Rattle.std.proofs.Common.{ℕ, ◌+◌, true, false, List, inl, inr, refl, arith}
use Rattle.channel_core.specs.Stands.{EndState}
use Rattle.session_audit.specs.declared.act.Act.{Act}
use Rattle.session_audit.specs.declared.reading.Saying.{Saying}
use Rattle.session_audit.specs.declared.step.Step.{Step}
use Rattle.session_audit.specs.Marks.{AreMarks, AreOne, MarksState, Notes}
use Rattle.session_audit.specs.Playing.{SeatState, Tries}
use Rattle.session_audit.specs.Seats.{Advances}

-- what an end made of an act, whatever the marks stand for
abbrev pub AdvancesFor :
    SeatState → EndState → SeatState → List Saying → Act → Step → Type 0
AdvancesFor old end theirs sayings act step =
    (acts others : List Act) (a b : ℕ)
    → AreMarks old.marks sayings acts a
    → AreMarks theirs.marks sayings others b
    → AreOne others
    → Advances old.end end acts others act step

pub tried_done : (old theirs : SeatState) (sayings : List Saying) (act : Act) (end : EndState)
    (marks : MarksState)
    → AdvancesFor old end theirs sayings act Step.Done
    → Notes old.marks marks old.next act
    → Tries old (record old { end = end; marks = marks; next = old.next + 1 }) theirs sayings act true
tried_done old theirs sayings act end marks advances notes w acts others before saying seat mine other one there says =
    let told = advances acts others old.next before mine other one w seat in (
      λ _. record {
        can = told.0;
        heard = told.1;
        seat = told.2;
        marks = notes sayings acts old.next saying mine (omega arith) there says;
        next = refl;
        stuck = refl;
      },
      λ refuses. absurd (cc),
    )

pub tried_not_shown : (old theirs : SeatState) (sayings : List Saying) (act : Act) (end : EndState)
    → AdvancesFor old end theirs sayings act Step.NotShown
    → Tries old (record old { end = end; stuck = true }) theirs sayings act false
tried_not_shown old theirs sayings act end advances w acts others before saying seat mine other one there says = (
  λ refuses. absurd (cc),
  λ _. record {
    next = refl;
    marks = refl;
    why = inl (refl, advances acts others old.next before mine other one w seat);
  },
)

pub tried_unheard : (old theirs : SeatState) (sayings : List Saying) (act : Act) (end : EndState)
    → AdvancesFor old end theirs sayings act Step.Unheard
    → Tries old (record old { end = end }) theirs sayings act false
tried_unheard old theirs sayings act end advances w acts others before saying seat mine other one there says =
    let told = advances acts others old.next before mine other one in (
      λ refuses. absurd (cc),
      λ _. record { next = refl; marks = refl; why = inr (told.1, refl, told.0) },
    )
