-- An end of the replay that goes on to its next saying.
use Rattle.std.proofs.Common.{◌≡◌, ℕ, ◌≤◌, true, false, Some, None, List, [], refl, sym, ap, subst, ◌∙◌, arith, length, slice_get, take}
use Rattle.std.specs.List.{All, Contains}
use Rattle.std.proofs.lemmas.List.Elements.{All-nil}
use Rattle.std.proofs.lemmas.Option.{none-some, same_Some}
use Rattle.chan_values.specs.declared.side.Side.{Side}
use Rattle.channel_core.specs.declared.message.Outgoing.{Outgoing}
use Rattle.channel_core.specs.Stands.{EndState, Stands}
use Rattle.channel_core.proofs.LegalLemmas.{IsLegal-nil}
use Rattle.session_audit.specs.declared.act.Act.{Act}
use Rattle.session_audit.specs.declared.reading.Saying.{Saying}
use Rattle.session_audit.specs.Acts.{acts_of}
use Rattle.session_audit.specs.Marks.{AreMarks, AreOne, MarksState}
use Rattle.session_audit.specs.Moves.{CanMove, Move, acts_at, move_of}
use Rattle.session_audit.specs.Playing.{AreDone, GoesOn, IsHeld, IsNewSeat, IsPlayed, SaysAct, SeatState, Skips, acts_before}
use Rattle.session_audit.specs.Replay.{CanReplay}
use Rattle.session_audit.specs.Seats.{IsSeat}
use Rattle.session_audit.proofs.ReplayLemmas.{replay-nil}
use Rattle.session_audit.proofs.SaidLemmas.{acts_before-start}
use Rattle.session_audit.proofs.NoteLemmas.{nothing_marked}

-- the marks stand for later places too
marks_later : (s : MarksState) (sayings : List Saying) (acts : List Act) (before after : ℕ)
    → before ≤ after
    → AreMarks s sayings acts before
    → AreMarks s sayings acts after
marks_later s sayings acts before after later x =
    let far = x.opened in
    record {
      each = λ n.
          let each = x.each n in
          let past = each.past in
          record {
            stream = each.stream;
            sent = each.sent;
            acked = each.acked;
            past = omega (arith, past, later);
          };
      opened = omega (arith, far, later);
    }

-- ---- a new end

nothing_shown : acts_of [] ≡ []
unfolding acts_of
nothing_shown = refl

new_seat : (w : ℕ) (end : EndState) → Stands w end [] → IsSeat w end []
new_seat w end stands =
    record {
      stands = rw (replay-nil w) (IsLegal-nil w, stands);
      shown = rw (replay-nil w) nothing_shown;
    }

nothing_contained : (acts : List Act) (act : Act) → acts ≡ [] → Contains acts act → ⊥
nothing_contained acts act is there =
    let below = there.1 in
    let none : length acts ≡ 0 = ap (λ (l : List Act). length l) is in
    omega (arith, below, none)

pub played_new : (w : ℕ) (side : Side) (sayings : List Saying) (seat : SeatState)
    → IsNewSeat w seat
    → IsPlayed w side sayings seat
played_new w side sayings seat new =
    let at = new.next in
    let acts : acts_before side sayings seat.next ≡ []
    = ap (acts_before side sayings) at ∙ acts_before-start side sayings in
    record {
      within = omega (arith, at);
      said = subst (λ (n : ℕ). All (SaysAct side) (take n sayings)) (sym at) (All-nil (SaysAct side));
      marks = subst (λ (l : List Act). AreMarks seat.marks sayings l seat.next) (sym acts)
          (subst (λ (n : ℕ). AreMarks seat.marks sayings [] n) (sym at)
          (subst (λ (m : MarksState). AreMarks m sayings [] 0) (sym new.marks)
          (nothing_marked sayings)));
      one = λ a b there _ _. absurd (nothing_contained _ (Act.Emits (Outgoing.Stream a)) acts there);
      stands = λ _. subst (IsSeat w seat.end) (sym acts) (new_seat w seat.end new.end);
      blocked = λ is. let free = new.stuck in cc;
    }

-- ---- the next saying

-- an end stands where it stood, at the next saying of its side
pub played_skip : (w : ℕ) (side : Side) (sayings : List Saying) (old : SeatState) (to : ℕ)
    → IsPlayed w side sayings old
    → old.stuck ≡ false
    → Skips side sayings old.next to
    → IsPlayed w side sayings (record old { next = to })
played_skip w side sayings old to x free skips =
    let acts = skips.acts in
    record {
      within = skips.within x.within;
      said = skips.said x.said;
      marks = subst (λ (l : List Act). AreMarks old.marks sayings l to) (sym acts)
          (marks_later old.marks sayings (acts_before side sayings old.next) old.next to
          skips.forth x.marks);
      one = subst AreOne (sym acts) x.one;
      stands = λ is. subst (IsSeat w old.end) (sym acts) (x.stands is);
      blocked = λ is. cc;
    }

-- what can't be replayed is held
pub held_at : (w : ℕ) (side : Side) (sayings : List Saying) (moves : List Move) (n : ℕ) (it : Saying)
    → acts_at side moves ≡ acts_before side sayings n
    → slice_get sayings n ≡ Some it
    → it.side ≡ side
    → ((act : Act) → it.act ≡ Some act → CanMove w moves (move_of side act) → ⊥)
    → IsHeld w side sayings moves n
held_at w side sayings moves n it done is here refuses s there =
    let same : it ≡ s = same_Some it s (sym is ∙ there) in (
      ap (λ (y : Saying). y.side) (sym same) ∙ here,
      λ act says can. refuses act (ap (λ (y : Saying). y.act) same ∙ says) can,
    )

-- a replay after the moves is one after what was said
pub replays_before : (w : ℕ) (side : Side) (sayings : List Saying) (moves : List Move) (n : ℕ) (act : Act)
    → acts_at side moves ≡ acts_before side sayings n
    → CanMove w moves (move_of side act)
    → CanReplay w (acts_before side sayings n) act
replays_before w side sayings moves n act done can =
    subst (λ (l : List Act). CanReplay w l act) done can.replays

-- an end that is blocked stays where it is
pub goes_blocked : (side : Side) (sayings : List Saying) (old theirs : SeatState)
    → old.stuck ≡ true
    → GoesOn side sayings old old theirs false
goes_blocked side sayings old theirs stuck w moves x done y there =
    let blocked = x.blocked stuck in (
      x,
      λ is. absurd (cc),
      λ _. (
        done,
        omega arith,
        held_at w side sayings moves old.next blocked.0 done blocked.1 blocked.2
            (λ act says can. blocked.3 act says
            (replays_before w side sayings moves old.next act done can)),
      ),
    )

-- the moves are those before the next saying too
pub done_skip : (side : Side) (sayings : List Saying) (moves : List Move) (old : SeatState) (to : ℕ)
    → AreDone side sayings moves old
    → Skips side sayings old.next to
    → AreDone side sayings moves (record old { next = to })
done_skip side sayings moves old to done skips = done ∙ sym skips.acts

-- an end with no saying left
pub goes_ended : (side : Side) (sayings : List Saying) (old theirs : SeatState) (to : ℕ)
    → old.stuck ≡ false
    → Skips side sayings old.next to
    → slice_get sayings to ≡ None
    → GoesOn side sayings old (record old { next = to }) theirs false
goes_ended side sayings old theirs to free skips none w moves x done y there = (
  played_skip w side sayings old to x free skips,
  λ is. absurd (cc),
  λ _. (
    done_skip side sayings moves old to done skips,
    skips.forth,
    λ s is. absurd (none-some s (sym none ∙ is)),
  ),
)

-- an end whose next saying says nothing that it can do
pub goes_foreign : (side : Side) (sayings : List Saying) (old theirs : SeatState) (to : ℕ)
    (it : Saying)
    → old.stuck ≡ false
    → Skips side sayings old.next to
    → slice_get sayings to ≡ Some it
    → it.act ≡ None
    → GoesOn side sayings old (record old { next = to; stuck = true }) theirs false
goes_foreign side sayings old theirs to it free skips is none w moves x done y there =
    let here = skips.found it is in
    let p = played_skip w side sayings old to x free skips in (
      record {
        within = p.within;
        said = p.said;
        marks = p.marks;
        one = p.one;
        stands = λ refuses. cc;
        blocked = λ _.
            (it, is, here, λ act says can. none-some act (sym none ∙ says));
      },
      λ refuses. absurd (cc),
      λ _. (
        done_skip side sayings moves old to done skips,
        skips.forth,
        held_at w side sayings moves to it (done_skip side sayings moves old to done skips) is here
            (λ act says can. none-some act (sym none ∙ says)),
      ),
    )
