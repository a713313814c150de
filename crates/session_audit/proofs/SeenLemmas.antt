-- What is seen of a world.
use Rattle.std.proofs.Common.{◌≡◌, Option, Some, None, List, [], ◌∷◌, ◌++◌, ⊎_elim, refl, sym, ap, ◌∙◌, map}
use Rattle.std.specs.List.{cons_option, filter_map}
use Rattle.std.specs.Option.{option_map}
use Rattle.std.proofs.lemmas.List.{append-nil}
use Rattle.std.proofs.lemmas.List.Elements.{filter_map-append}
use Rattle.chan_values.specs.declared.side.Side.{Side}
use Rattle.chan_values.specs.Sides.{other}
use Rattle.channel_core.specs.Call.{Entry}
use Rattle.channel_core.specs.World.{Event, history_of}
use Rattle.channel_core.proofs.HistoryLemmas.{by_pushes}
use Rattle.channel_core.proofs.WorldLemmas.{cases_side, history_of-here, history_of-there}
use Rattle.session_audit.specs.declared.act.Act.{Act}
use Rattle.session_audit.specs.Acts.{act_of, acts_of}
use Rattle.session_audit.specs.Moves.{Move, acts_at, event_at, move_of, moves_of}
use Rattle.session_audit.proofs.ReplayLemmas.{acts_of-push}
use Rattle.session_audit.proofs.MoveLemmas.{acts_at-here, acts_at-there, seen_nothing}

-- ---- what is seen of a world

pub moves_of-push : (world : List Event) (x : Event)
    → moves_of (world ++ x ∷ [])
    ≡ moves_of world
    ++ cons_option (option_map (move_of x.side) (act_of x.entry.answer x.entry.call)) []
unfolding moves_of
moves_of-push world x =
    filter_map-append
    (λ (y : Event). option_map (move_of y.side) (act_of y.entry.answer y.entry.call)) world (x ∷ [])

-- entries of one end show their acts
pub moves_of-more : (side : Side) (world : List Event) (l : List Entry)
    → moves_of (world ++ map (event_at side) l)
    ≡ moves_of world ++ map (move_of side) (acts_of l)
unfolding moves_of acts_of
moves_of-more side world l =
    filter_map-append
    (λ (y : Event). option_map (move_of y.side) (act_of y.entry.answer y.entry.call))
    world (map (event_at side) l)
    ∙ ap (λ (ms : List Move). moves_of world ++ ms) (seen l)
  where
    one : (o : Option Act) (ms : List Move) (acts : List Act)
        → ms ≡ map (move_of side) acts
        → cons_option (option_map (move_of side) o) ms ≡ map (move_of side) (cons_option o acts)
    one None ms acts is = is
    one (Some act) ms acts is = ap (λ (l : List Move). move_of side act ∷ l) is

    seen : (l : List Entry)
        → filter_map
        (λ (y : Event). option_map (move_of y.side) (act_of y.entry.answer y.entry.call))
        (map (event_at side) l)
        ≡ map (move_of side) (acts_of l)
    seen [] = refl
    seen (e ∷ l) = one (act_of e.answer e.call) _ _ (seen l)

-- what is seen of a world at one end is what is seen of its history there
pub acts_at-moves_of : (world : List Event) (side : Side)
    → acts_at side (moves_of world) ≡ acts_of (history_of side world)
acts_at-moves_of world =
    by_pushes
    (λ (world : List Event). (side : Side)
    → acts_at side (moves_of world) ≡ acts_of (history_of side world))
    seen_nothing
    (λ world x before side. one world x (act_of x.entry.answer x.entry.call) refl before side)
    world
  where
    one : (world : List Event) (x : Event) (o : Option Act)
        → act_of x.entry.answer x.entry.call ≡ o
        → ((side : Side) → acts_at side (moves_of world) ≡ acts_of (history_of side world))
        → (side : Side)
        → acts_at side (moves_of (world ++ x ∷ [])) ≡ acts_of (history_of side (world ++ x ∷ []))
    one world x o is before side =
        ⊎_elim
        (λ (here : x.side ≡ side).
        let history : acts_of (history_of side (world ++ x ∷ []))
        ≡ acts_of (history_of side world) ++ cons_option o []
        = ap acts_of (history_of-here side world x here)
        ∙ acts_of-push (history_of side world) x.entry
        ∙ ap (λ (p : Option Act). acts_of (history_of side world) ++ cons_option p []) is in
        ap (acts_at side) (moves_of-push world x)
        ∙ ap
        (λ (p : Option Act).
        acts_at side (moves_of world ++ cons_option (option_map (move_of x.side) p) []))
        is
        ∙ shown o here
        ∙ ap (λ (l : List Act). l ++ cons_option o []) (before side)
        ∙ sym history)
        (λ (there : x.side ≡ other side).
        ap (acts_at side) (moves_of-push world x)
        ∙ hidden (act_of x.entry.answer x.entry.call) there
        ∙ before side
        ∙ ap acts_of (sym (history_of-there side world x there)))
        (cases_side side x.side)
      where
        shown : (o : Option Act)
            → x.side ≡ side
            → acts_at side (moves_of world ++ cons_option (option_map (move_of x.side) o) [])
            ≡ acts_at side (moves_of world) ++ cons_option o []
        shown None here =
            ap (acts_at side) (append-nil (moves_of world))
            ∙ sym (append-nil (acts_at side (moves_of world)))
        shown (Some act) here = acts_at-here side (moves_of world) (move_of x.side act) here

        hidden : (o : Option Act)
            → x.side ≡ other side
            → acts_at side (moves_of world ++ cons_option (option_map (move_of x.side) o) [])
            ≡ acts_at side (moves_of world)
        hidden None there = ap (acts_at side) (append-nil (moves_of world))
        hidden (Some act) there =
            acts_at-there side (moves_of world) (move_of x.side act) there
