-- The order in which the two ends are replayed does not matter.
use Rattle.std.proofs.Common.{ℕ, ◌≡◌, List, [], ◌∷◌, ◌++◌, ◌⊎◌, inl, inr, ⊎_elim, refl, sym, ap, subst, ◌∙◌, append_assoc}
use Rattle.std.proofs.lemmas.List.{append-nil, append_cancel_left}
use Rattle.std.proofs.lemmas.List.Elements.{Contains-append_left, filter_map-append}
use Rattle.chan_values.specs.declared.side.Side.{Side}
use Rattle.chan_values.specs.Sides.{other}
use Rattle.channel_core.specs.declared.message.Incoming.{Incoming}
use Rattle.channel_core.specs.declared.message.Outgoing.{Outgoing}
use Rattle.channel_core.specs.Laws.{IsPrefixOf}
use Rattle.channel_core.proofs.HistoryLemmas.{by_pushes}
use Rattle.channel_core.proofs.WorldLemmas.{cases_side}
use Rattle.session_audit.specs.declared.act.Act.{Act}
use Rattle.session_audit.specs.Acts.{out_of, outs_of}
use Rattle.session_audit.specs.Laws.{IsRunOf, OrderIsFree, StuckIsDone}
use Rattle.session_audit.specs.Moves.{CanMove, IsHeardOf, Move, acts_at, moves_of}
use Rattle.session_audit.proofs.MoveLemmas.{IsRun-pushed, acts_at-here, acts_at-there}
use Rattle.session_audit.proofs.WorldRunLemmas.{world_is_run}

-- ---- prefixes

-- of two prefixes of one list, the first ends where the second does, or the second goes on with the
-- same element as the list
prefix_cases : {X : Type 0} (xs ys zs : List X) (x : X) (rest more : List X)
    → xs ++ x ∷ rest ≡ zs
    → ys ++ more ≡ zs
    → IsPrefixOf xs ys
    → (ys ≡ xs) ⊎ IsPrefixOf (xs ++ x ∷ []) ys
prefix_cases {X} xs ys zs x rest more is_x is_y ([], same) =
    inl (sym (sym (append-nil xs) ∙ same))
prefix_cases {X} xs ys zs x rest more is_x is_y (y ∷ tail, same) =
    let behind : x ∷ rest ≡ y ∷ (tail ++ more)
    = append_cancel_left xs (x ∷ rest) (y ∷ (tail ++ more))
    (is_x
    ∙ sym is_y
    ∙ ap (λ (l : List X). l ++ more) (sym same)
    ∙ append_assoc xs (y ∷ tail) more) in
    let first : x ≡ y = cc in
    inr (
      tail,
      append_assoc xs (x ∷ []) tail
          ∙ ap (λ (z : X). xs ++ z ∷ tail) first
          ∙ same,
    )

-- a list that is a prefix of one of its prefixes is that prefix
pub prefix_both : {X : Type 0} (xs ys : List X)
    → IsPrefixOf xs ys
    → IsPrefixOf ys xs
    → xs ≡ ys
prefix_both {X} xs ys ([], there) back = sym (append-nil xs) ∙ there
prefix_both {X} xs ys (x ∷ more, there) (rest, back) =
    let joined : xs ++ (x ∷ (more ++ rest)) ≡ xs ++ []
    = sym (append_assoc xs (x ∷ more) rest)
    ∙ ap (λ (l : List X). l ++ rest) there
    ∙ back
    ∙ sym (append-nil xs) in
    let nothing : x ∷ (more ++ rest) ≡ [] = append_cancel_left xs (x ∷ (more ++ rest)) [] joined in
    absurd (cc)

-- ---- what was given out before is still so later

heard_later : (outs more : List Outgoing) (act : Act)
    → IsHeardOf outs act
    → IsHeardOf (outs ++ more) act
heard_later outs more (Act.Hears (Incoming.Stream n id item last)) heard =
    (heard.0, Contains-append_left outs more _ heard.1)
heard_later outs more (Act.Hears (Incoming.Ack n)) heard =
    (heard.0, heard.1, Contains-append_left outs more _ heard.2)
heard_later outs more (Act.Hears Incoming.Pause) heard = tt
heard_later outs more (Act.Hears Incoming.Start) heard = tt
heard_later outs more (Act.Hears (Incoming.Closing output)) heard = tt
heard_later outs more (Act.Emits out) heard = tt
heard_later outs more Act.Opens heard = tt
heard_later outs more Act.Loses heard = tt
heard_later outs more Act.Closes heard = tt

outs_of-append : (xs ys : List Act) → outs_of (xs ++ ys) ≡ outs_of xs ++ outs_of ys
unfolding outs_of
outs_of-append xs ys = filter_map-append out_of xs ys

-- a move can be done after other moves too, where its end did the same and the other end no less
can_later : (w : ℕ) (moves others : List Move) (m : Move)
    → CanMove w others m
    → acts_at m.side moves ≡ acts_at m.side others
    → IsPrefixOf (acts_at (other m.side) others) (acts_at (other m.side) moves)
    → CanMove w moves m
can_later w moves others m can same (rest, longer) =
    let outs : outs_of (acts_at (other m.side) moves)
    ≡ outs_of (acts_at (other m.side) others) ++ outs_of rest
    = ap outs_of (sym longer) ∙ outs_of-append (acts_at (other m.side) others) rest in
    record {
      replays = rw same can.replays;
      heard = rw outs
          (heard_later (outs_of (acts_at (other m.side) others)) (outs_of rest) m.act can.heard);
    }

-- ---- a run that is stuck has come furthest

-- the front of a run of these acts is one
front_of : (w : ℕ) (acts : Side → List Act) (others : List Move) (m : Move)
    → IsRunOf w acts (others ++ m ∷ [])
    → IsRunOf w acts others
front_of w acts others m run =
    record {
      run = (IsRun-pushed w others m run.run).0;
      front = λ side.
          ⊎_elim
          (λ (here : m.side ≡ side).
          let f = run.front side in (
            m.act ∷ f.0,
            sym (append_assoc (acts_at side others) (m.act ∷ []) f.0)
                ∙ ap (λ (l : List Act). l ++ f.0) (sym (acts_at-here side others m here))
                ∙ f.1,
          ))
          (λ (there : m.side ≡ other side).
          let f = run.front side in
          (f.0, ap (λ (l : List Act). l ++ f.0) (sym (acts_at-there side others m there)) ∙ f.1))
          (cases_side side m.side);
    }

nothing_done : (side : Side) (l : List Act) → IsPrefixOf (acts_at side []) l
unfolding acts_at
nothing_done side l = (l, refl)

pub order_is_free : OrderIsFree
order_is_free w acts moves others run stuck =
    by_pushes
    (λ (others : List Move). IsRunOf w acts others
    → (side : Side) → IsPrefixOf (acts_at side others) (acts_at side moves))
    (λ _ side. nothing_done side (acts_at side moves))
    (λ others m before run_others side.
    let done = before (front_of w acts others m run_others) in
    ⊎_elim
    (λ (here : m.side ≡ side).
    subst
    (λ (s : Side). IsPrefixOf (acts_at s (others ++ m ∷ [])) (acts_at s moves))
    here (one others m run_others done))
    (λ (there : m.side ≡ other side).
    subst
    (λ (l : List Act). IsPrefixOf l (acts_at side moves))
    (sym (acts_at-there side others m there)) (done side))
    (cases_side side m.side))
    others
  where
    one : (others : List Move) (m : Move)
        → IsRunOf w acts (others ++ m ∷ [])
        → ((side : Side) → IsPrefixOf (acts_at side others) (acts_at side moves))
        → IsPrefixOf (acts_at m.side (others ++ m ∷ [])) (acts_at m.side moves)
    one others m run_others done =
        let mine = acts_at m.side others in
        let here = acts_at-here m.side others m refl in
        let all = run_others.front m.side in
        let far = run.front m.side in
        let is : mine ++ m.act ∷ all.0 ≡ acts m.side
        = sym (append_assoc mine (m.act ∷ []) all.0)
        ∙ ap (λ (l : List Act). l ++ all.0) (sym here)
        ∙ all.1 in
        ⊎_elim
        (λ (same : acts_at m.side moves ≡ mine).
        absurd
        (stuck m.side m.act all.0
        (ap (λ (l : List Act). l ++ m.act ∷ all.0) same ∙ is)
        (can_later w moves others m
        (IsRun-pushed w others m run_others.run).1 same (done (other m.side)))))
        (λ (longer : IsPrefixOf (mine ++ m.act ∷ []) (acts_at m.side moves)).
        subst (λ (l : List Act). IsPrefixOf l (acts_at m.side moves)) (sym here) longer)
        (prefix_cases mine (acts_at m.side moves) (acts m.side) m.act all.0 far.0 is far.1
        (done m.side))

-- where a world shows the acts, a run that is stuck has done them all
pub stuck_is_done : StuckIsDone
stuck_is_done w acts world moves some whole shows run stuck side =
    let seen = moves_of world in
    let whole_run : IsRunOf w acts seen
    = record {
      run = world_is_run w world some whole;
      front = λ s. ([], append-nil (acts_at s seen) ∙ shows s);
    } in
    let far = order_is_free w acts moves seen run stuck whole_run side in
    prefix_both (acts_at side moves) (acts side) (run.front side)
    (subst (λ (l : List Act). IsPrefixOf l (acts_at side moves)) (shows side) far)
