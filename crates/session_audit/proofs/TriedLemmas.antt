-- An end of the replay that tries the act of its next saying.
use Rattle.std.proofs.Common.{◌≡◌, ℕ, ◌<◌, ◌≤◌, Bool, true, false, Some, List, [], ◌∷◌, ◌++◌, ⊎_elim, refl, sym, ap, subst, ◌∙◌, arith, slice_get, take}
use Rattle.std.specs.List.{All}
use Rattle.std.proofs.lemmas.List.Elements.{All-push}
use Rattle.std.proofs.lemmas.Option.{none-some, same_Some, slice_get_within}
use Rattle.chan_values.specs.declared.side.Side.{Side}
use Rattle.chan_values.specs.Sides.{other}
use Rattle.channel_core.specs.Stands.{EndState}
use Rattle.session_audit.specs.declared.act.Act.{Act}
use Rattle.session_audit.specs.declared.reading.Saying.{Saying}
use Rattle.session_audit.specs.Acts.{outs_of}
use Rattle.session_audit.specs.Marks.{AreMarks, AreOne, MarksState}
use Rattle.session_audit.specs.Moves.{CanMove, IsHeardOf, Move, move_of}
use Rattle.session_audit.specs.Playing.{AreDone, GoesOn, IsDone, IsHeld, IsPlayed, IsUndone, SaysAct, SeatState, Skips, Tries, acts_before}
use Rattle.session_audit.specs.Replay.{CanReplay}
use Rattle.session_audit.specs.Seats.{IsSeat}
use Rattle.session_audit.proofs.GivenLemmas.{seat_one}
use Rattle.session_audit.proofs.MoveLemmas.{acts_at-here}
use Rattle.session_audit.proofs.SaidLemmas.{acts_before-here, take-more}
use Rattle.session_audit.proofs.PlayLemmas.{done_skip, held_at, played_skip, replays_before}

-- ---- an act is tried

-- it was done
done_goes : (w : ℕ) (side : Side) (sayings : List Saying) (moves : List Move)
    (mid new theirs : SeatState) (it : Saying) (act : Act)
    → IsPlayed w side sayings mid
    → mid.stuck ≡ false
    → AreDone side sayings moves mid
    → AreDone (other side) sayings moves theirs
    → slice_get sayings mid.next ≡ Some it
    → it.side ≡ side
    → it.act ≡ Some act
    → IsDone w mid new sayings (acts_before side sayings mid.next)
    (acts_before (other side) sayings theirs.next) act
    → IsPlayed w side sayings new
    × CanMove w moves (move_of side act)
    × AreDone side sayings (moves ++ move_of side act ∷ []) new
    × (mid.next < new.next)
done_goes w side sayings moves mid new theirs it act x free done there is here says d =
    let next = d.next in
    let acts : acts_before side sayings new.next ≡ acts_before side sayings mid.next ++ act ∷ []
    = ap (acts_before side sayings) next ∙ acts_before-here side sayings mid.next it act is here says in
    let below = slice_get_within sayings mid.next it is in (
      record {
        within = omega (arith, next, below);
        said = subst (λ (n : ℕ). All (SaysAct side) (take n sayings)) (sym next)
            (subst (All (SaysAct side)) (sym (take-more sayings mid.next it is))
            (All-push (SaysAct side) (take mid.next sayings) it x.said
            (λ _ none. none-some act (sym none ∙ says))));
        marks = subst (λ (l : List Act). AreMarks new.marks sayings l new.next) (sym acts) d.marks;
        one = subst AreOne (sym acts) (seat_one w new.end _ d.seat);
        stands = λ _. subst (IsSeat w new.end) (sym acts) d.seat;
        blocked = λ stuck. let same = d.stuck in cc;
      },
      record {
        replays = subst (λ (l : List Act). CanReplay w l act) (sym done) d.can;
        heard = subst (λ (l : List Act). IsHeardOf (outs_of l) act) (sym there) d.heard;
      },
      acts_at-here side moves (move_of side act) refl
          ∙ ap (λ (l : List Act). l ++ act ∷ []) done
          ∙ sym acts,
      omega (arith, next),
    )

-- it was not
undone_goes : (w : ℕ) (side : Side) (sayings : List Saying) (moves : List Move)
    (mid new theirs : SeatState) (it : Saying) (act : Act)
    → IsPlayed w side sayings mid
    → mid.stuck ≡ false
    → AreDone side sayings moves mid
    → AreDone (other side) sayings moves theirs
    → slice_get sayings mid.next ≡ Some it
    → it.side ≡ side
    → it.act ≡ Some act
    → IsUndone w mid new (acts_before side sayings mid.next)
    (acts_before (other side) sayings theirs.next) act
    → IsPlayed w side sayings new
    × AreDone side sayings moves new
    × IsHeld w side sayings moves new.next
undone_goes w side sayings moves mid new theirs it act x free done there is here says u =
    let next = u.next in
    let acts : acts_before side sayings mid.next ≡ acts_before side sayings new.next
    = ap (acts_before side sayings) (sym next) in
    let within = x.within in
    let only : (a : Act) → it.act ≡ Some a → act ≡ a
    = λ a told. same_Some act a (sym says ∙ told) in
    let marks : AreMarks new.marks sayings (acts_before side sayings new.next) new.next
    = subst (λ (n : ℕ). AreMarks new.marks sayings (acts_before side sayings n) n) (sym next)
    (subst (λ (m : MarksState). AreMarks m sayings (acts_before side sayings mid.next) mid.next)
    (sym u.marks) x.marks) in
    let get : slice_get sayings new.next ≡ Some it
    = ap (λ (n : ℕ). slice_get sayings n) next ∙ is in
    let held : ((a : Act) → it.act ≡ Some a → CanMove w moves (move_of side a) → ⊥)
    → IsHeld w side sayings moves new.next
    = λ refuses. held_at w side sayings moves new.next it (done ∙ acts) get here refuses in
    ⊎_elim
    (λ (gone : (new.stuck ≡ true) × (CanReplay w (acts_before side sayings mid.next) act → ⊥)).
    let never : (a : Act) → it.act ≡ Some a → CanReplay w (acts_before side sayings mid.next) a → ⊥
    = λ a told can. gone.1 (subst (CanReplay w (acts_before side sayings mid.next)) (sym (only a told)) can) in (
      record {
        within = omega (arith, next, within);
        said = subst (λ (n : ℕ). All (SaysAct side) (take n sayings)) (sym next) x.said;
        marks = marks;
        one = subst AreOne acts x.one;
        stands = λ refuses. let yes = gone.0 in cc;
        blocked = λ _. (
          it,
          get,
          here,
          λ a told can. never a told (subst (λ (l : List Act). CanReplay w l a) (sym acts) can),
        );
      },
      done ∙ acts,
      held (λ a told can. never a told (replays_before w side sayings moves mid.next a done can)),
    ))
    (λ (waits : (new.end ≡ mid.end) × (new.stuck ≡ mid.stuck)
    × (IsHeardOf (outs_of (acts_before (other side) sayings theirs.next)) act → ⊥)). (
      record {
        within = omega (arith, next, within);
        said = subst (λ (n : ℕ). All (SaysAct side) (take n sayings)) (sym next) x.said;
        marks = marks;
        one = subst AreOne acts x.one;
        stands = λ _.
            subst (λ (e : EndState). IsSeat w e (acts_before side sayings new.next)) (sym waits.0)
            (subst (IsSeat w mid.end) acts (x.stands free));
        blocked = λ yes. let same = waits.1 in cc;
      },
      done ∙ acts,
      held (λ a told can.
          waits.2
          (subst (IsHeardOf (outs_of (acts_before (other side) sayings theirs.next))) (sym (only a told))
          (subst (λ (l : List Act). IsHeardOf (outs_of l) a) there can.heard))),
    ))
    u.why

-- an end that tries its next act
pub goes_tried : (side : Side) (sayings : List Saying) (old new theirs : SeatState) (to : ℕ)
    (it : Saying) (act : Act) (done : Bool)
    → old.stuck ≡ false
    → Skips side sayings old.next to
    → slice_get sayings to ≡ Some it
    → it.act ≡ Some act
    → Tries (record old { next = to }) new theirs sayings act done
    → GoesOn side sayings old new theirs done
goes_tried side sayings old new theirs to it act done free skips is says tries w moves x moved y there =
    let mid : SeatState = record old { next = to } in
    let p = played_skip w side sayings old to x free skips in
    let told = tries w (acts_before side sayings to) (acts_before (other side) sayings theirs.next)
    theirs.next it (p.stands free) p.marks y.marks y.one is says in
    by done told
  where
    by : (done : Bool)
        → ((done ≡ true → IsDone w (record old { next = to }) new sayings (acts_before side sayings to)
        (acts_before (other side) sayings theirs.next) act)
        × (done ≡ false → IsUndone w (record old { next = to }) new (acts_before side sayings to)
        (acts_before (other side) sayings theirs.next) act))
        → IsPlayed w side sayings new
        × (done ≡ true
        → (act : Act)
        × CanMove w moves (move_of side act)
        × AreDone side sayings (moves ++ move_of side act ∷ []) new
        × (old.next < new.next))
        × (done ≡ false
        → AreDone side sayings moves new
        × (old.next ≤ new.next)
        × IsHeld w side sayings moves new.next)
    by true told =
        let mid : SeatState = record old { next = to } in
        let p = played_skip w side sayings old to x free skips in
        let forth = skips.forth in
        let r = done_goes w side sayings moves mid new theirs it act p free
        (done_skip side sayings moves old to moved skips) there is (skips.found it is) says
        (told.0 refl) in
        let less = r.3 in
        (r.0, λ _. (act, r.1, r.2, omega (arith, forth, less)), λ refuses. absurd (cc))
    by false told =
        let mid : SeatState = record old { next = to } in
        let p = played_skip w side sayings old to x free skips in
        let forth = skips.forth in
        let u = told.1 refl in
        let next = u.next in
        let r = undone_goes w side sayings moves mid new theirs it act p free
        (done_skip side sayings moves old to moved skips) there is (skips.found it is) says u in
        (r.0, λ refuses. absurd (cc), λ _. (r.1, omega (arith, forth, next), r.2))
