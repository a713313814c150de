-- Worlds: one event more, and what it is at each end.
use Rattle.std.proofs.Common.{◌≡◌, ℕ, Option, Some, None, List, [], ◌∷◌, ◌++◌, ◌⊎◌, inl, inr, ⊎_elim, refl, sym, ap, subst, ◌∙◌, append_assoc}
use Rattle.std.specs.List.{Contains, cons_option, slice_get}
use Rattle.std.proofs.lemmas.List.{append-nil}
use Rattle.std.proofs.lemmas.List.Elements.{All-nil, All-push, filter_map-append}
use Rattle.std.proofs.lemmas.Option.{get_or_from_slice_get, slice_get_within}
use Rattle.chan_values.specs.declared.side.Side.{Side}
use Rattle.chan_values.specs.declared.side.Side.TheVariants.{Plugin, Agent}
use Rattle.chan_values.specs.Sides.{other}
use Rattle.channel_core.specs.declared.call.EndCall.{EndCall}
use Rattle.channel_core.specs.declared.message.Outgoing.{Outgoing}
use Rattle.channel_core.specs.Call.{Entry, with_earlier}
use Rattle.channel_core.specs.Exchange.{incoming_of}
use Rattle.channel_core.specs.History.{emissions}
use Rattle.channel_core.specs.Laws.{WorldsGoOn}
use Rattle.channel_core.specs.Legal.{IsAnswered, IsLegal, answer_to}
use Rattle.channel_core.specs.World.{Event, HearsEmitted, IsHonest, IsLegalWorld, WasEmitted, entry_at, history_of}
use Rattle.channel_core.proofs.HistoryLemmas.{with_earlier-push}
use Rattle.channel_core.proofs.LegalLemmas.{All-pushed, IsLegal-nil, IsLegal-push, IsLegal-pushed}

-- a call at this end, with the answer that it gets
abbrev pub event_of : ℕ → List Event → Side → EndCall → Event
event_of w world side call =
    record {
      side = side;
      entry = record { call = call; answer = answer_to w (history_of side world) call };
    }

-- across the channel and back
pub other-other : (side : Side) → other (other side) ≡ side
other-other Plugin = refl
other-other Agent = refl

-- a side is this one or the other
pub cases_side : (side z : Side) → (z ≡ side) ⊎ (z ≡ other side)
cases_side Plugin Plugin = inl refl
cases_side Plugin Agent = inr refl
cases_side Agent Plugin = inr refl
cases_side Agent Agent = inl refl

-- what holds of a side and of the other holds of each
pub by_side : (P : Side → Type 0) (side : Side) → P side → P (other side) → (z : Side) → P z
by_side P Plugin here there Plugin = here
by_side P Plugin here there Agent = there
by_side P Agent here there Plugin = there
by_side P Agent here there Agent = here

-- an entry is at its own side
pub entry_at-same : (side : Side) (e : Entry) → entry_at side side e ≡ Some e
entry_at-same Plugin e = refl
entry_at-same Agent e = refl

-- and not at the other
pub entry_at-other : (side : Side) (e : Entry) → entry_at side (other side) e ≡ None
entry_at-other Plugin e = refl
entry_at-other Agent e = refl

pub history_of-push : (side : Side) (world : List Event) (x : Event)
    → history_of side (world ++ x ∷ [])
    ≡ history_of side world ++ cons_option (entry_at side x.side x.entry) []
unfolding history_of
history_of-push side world x =
    filter_map-append (λ (y : Event). entry_at side y.side y.entry) world (x ∷ [])

-- an event at this side is the last entry there
pub history_of-here : (side : Side) (world : List Event) (x : Event)
    → x.side ≡ side
    → history_of side (world ++ x ∷ []) ≡ history_of side world ++ x.entry ∷ []
history_of-here side world x here =
    history_of-push side world x
    ∙ ap
    (λ (o : Option Entry). history_of side world ++ cons_option o [])
    (ap (λ (z : Side). entry_at side z x.entry) here ∙ entry_at-same side x.entry)

-- an event at the other side changes nothing here
pub history_of-there : (side : Side) (world : List Event) (x : Event)
    → x.side ≡ other side
    → history_of side (world ++ x ∷ []) ≡ history_of side world
history_of-there side world x there =
    history_of-push side world x
    ∙ ap
    (λ (o : Option Entry). history_of side world ++ cons_option o [])
    (ap (λ (z : Side). entry_at side z x.entry) there ∙ entry_at-other side x.entry)
    ∙ append-nil (history_of side world)

-- an event here, seen from the other side
pub history_of-away : (side : Side) (world : List Event) (x : Event)
    → x.side ≡ side
    → history_of (other side) (world ++ x ∷ []) ≡ history_of (other side) world
history_of-away side world x here =
    history_of-there (other side) world x (here ∙ sym (other-other side))

-- what an event hears was emitted before it
abbrev Fits : List Event × Event → Type 0
Fits p = HearsEmitted p.0 p.1

-- an honest world is an honest one and an event that hears what was emitted before
pub IsHonest-pushed : (world : List Event) (x : Event)
    → IsHonest (world ++ x ∷ [])
    → IsHonest world × HearsEmitted world x
unfolding IsHonest
IsHonest-pushed world x honest =
    All-pushed Fits (with_earlier world) (world, x) (rw with_earlier-push at honest)

-- and the other way round
pub IsHonest-push : (world : List Event) (x : Event)
    → IsHonest world
    → HearsEmitted world x
    → IsHonest (world ++ x ∷ [])
unfolding IsHonest
IsHonest-push world x honest emitted =
    rw with_earlier-push (All-push Fits (with_earlier world) (world, x) honest emitted)

-- a world in which nothing happened is honest
pub IsHonest-nil : IsHonest []
unfolding IsHonest with_earlier
IsHonest-nil = All-nil Fits

-- and legal
pub IsLegalWorld-nil : (w : ℕ) → IsLegalWorld w []
unfolding history_of
IsLegalWorld-nil w side = IsLegal-nil w

-- a legal world is a legal one and an event that got its answer
pub IsLegalWorld-pushed : (w : ℕ) (world : List Event) (x : Event)
    → IsLegalWorld w (world ++ x ∷ [])
    → IsLegalWorld w world × IsAnswered w (history_of x.side world) x.entry.call x.entry.answer
IsLegalWorld-pushed w world x legal =
    (before, (IsLegal-pushed w (history_of x.side world) x.entry (at x.side refl)).1)
  where
    at : (side : Side) → x.side ≡ side → IsLegal w (history_of side world ++ x.entry ∷ [])
    at side here = subst (IsLegal w) (history_of-here side world x here) (legal side)

    before : (side : Side) → IsLegal w (history_of side world)
    before side =
        ⊎_elim
        (λ (here : x.side ≡ side).
        (IsLegal-pushed w (history_of side world) x.entry (at side here)).0)
        (λ (there : x.side ≡ other side).
        subst (IsLegal w) (history_of-there side world x there) (legal side))
        (cases_side side x.side)

-- and the other way round
pub IsLegalWorld-push : (w : ℕ) (world : List Event) (x : Event)
    → IsLegalWorld w world
    → IsAnswered w (history_of x.side world) x.entry.call x.entry.answer
    → IsLegalWorld w (world ++ x ∷ [])
IsLegalWorld-push w world x legal answered side =
    ⊎_elim
    (λ (here : x.side ≡ side).
    subst
    (IsLegal w) (sym (history_of-here side world x here))
    (IsLegal-push w (history_of side world) x.entry (legal side)
    (subst (λ z. IsAnswered w (history_of z world) x.entry.call x.entry.answer) here answered)))
    (λ (there : x.side ≡ other side).
    subst (IsLegal w) (sym (history_of-there side world x there)) (legal side))
    (cases_side side x.side)

-- the front of a legal world is one
pub IsLegalWorld-front : (w : ℕ) (world xs : List Event)
    → IsLegalWorld w (world ++ xs)
    → IsLegalWorld w world
IsLegalWorld-front w world [] legal = rw append-nil at legal
IsLegalWorld-front w world (x ∷ xs) legal =
    let longer = subst (IsLegalWorld w) (sym (append_assoc world (x ∷ []) xs)) legal in
    (IsLegalWorld-pushed w world x (IsLegalWorld-front w (world ++ x ∷ []) xs longer)).0

-- two events more, and the rest of a list
pub append_two : (world xs : List Event) (x y : Event)
    → ((world ++ x ∷ []) ++ y ∷ []) ++ xs ≡ world ++ (x ∷ y ∷ xs)
append_two world xs x y =
    append_assoc (world ++ x ∷ []) (y ∷ []) xs ∙ append_assoc world (x ∷ []) (y ∷ xs)

-- a fact about both, read off the one
pub append_two-holds : (P : List Event → Type 0) (world xs : List Event) (x y : Event)
    → P (((world ++ x ∷ []) ++ y ∷ []) ++ xs)
    → P (world ++ (x ∷ y ∷ xs))
append_two-holds P world xs x y = subst P (append_two world xs x y)

-- a world that is legal and honest
pub record IsRight (w : ℕ) (world : List Event) : Type 0 where
  pub legal : IsLegalWorld w world
  pub honest : IsHonest world

pub IsRight-nil : (w : ℕ) → IsRight w []
IsRight-nil w = record { legal = IsLegalWorld-nil w; honest = IsHonest-nil }

-- a call that gets its answer, and hears only what the other end emitted, keeps the world right
pub IsRight-push : (w : ℕ) (world : List Event) (side : Side) (call : EndCall)
    → IsRight w world
    → WasEmitted (emissions (history_of (other side) world)) call
    → IsRight w (world ++ event_of w world side call ∷ [])
IsRight-push w world side call right emitted =
    let x = event_of w world side call in
    record {
      legal = IsLegalWorld-push w world x right.legal (inl refl);
      honest = IsHonest-push world x right.honest (λ _. emitted);
    }

-- what the other end hears of an emission was emitted
pub WasEmitted-of : (sent : List Outgoing) (now : ℕ) (out : Outgoing)
    → Contains sent out
    → WasEmitted sent (EndCall.Heard now (incoming_of out))
WasEmitted-of sent now (Outgoing.Stream m) there = (m.date, there)
WasEmitted-of sent now (Outgoing.Ack n id date) there = (id, date, there)

-- also where it is found by its place
pub WasEmitted-at : (sent : List Outgoing) (place now : ℕ) (out : Outgoing)
    → slice_get sent place ≡ Some out
    → WasEmitted sent (EndCall.Heard now (incoming_of out))
WasEmitted-at sent place now out is =
    WasEmitted-of sent now out
    (place, slice_get_within sent place out is, get_or_from_slice_get sent place out out is)

pub worlds_go_on : WorldsGoOn
worlds_go_on =
    record {
      start = λ w. (IsLegalWorld-nil w, IsHonest-nil);
      next = λ w world x legal honest answered emitted.
          (IsLegalWorld-push w world x legal answered, IsHonest-push world x honest emitted);
    }
