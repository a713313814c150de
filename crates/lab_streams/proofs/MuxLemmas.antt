-- The histories of the two Muxes, call after call.
use Rattle.std.proofs.Common.{◌≡◌, Bool, true, false, List, [], ◌∷◌, ◌++◌, refl, sym, ap, subst, ◌∙◌, append-nil}
use Rattle.std.proofs.lemmas.List.Elements.{filter_map-append}
use Rattle.chan_values.specs.declared.side.Side.{Side}
use Rattle.chan_values.specs.declared.side.Side.TheVariants.{Plugin, Agent}
use Rattle.chan_values.specs.Sides.{other}
use Rattle.smux_streams.specs.Call.{Entry}
use Rattle.smux_streams.specs.Laws.{Step, IsLegalPair, entry_at, side_of}
use Rattle.smux_streams.specs.Legal.{Answers, IsLegal}
use Rattle.smux_acts.proofs.Eachs.{each_snoc}
use Rattle.channel_core.specs.History.{released_items}
use Rattle.channel_core.specs.World.{history_of}
use Rattle.smux_streams.specs.History.{consumed}
use Rattle.smux_streams.specs.Stands.{Stands}
use Rattle.lab_streams.specs.declared.carrier.Carrier.{Carrier}
use Rattle.lab_streams.specs.declared.link.Link.{Link}
use Rattle.lab_streams.specs.Ends.{IsCarrier, IsLink}
use Rattle.lab_streams.specs.Run.{beginning}
use Rattle.lab_streams.specs.Steps.{Past, bytes_of, is_client, mux_call, mux_history, with_call}

-- one call more
side_of-push : (client : Bool) (calls : List Step) (x : Step)
    → (e : List Entry)
    → side_of client (x ∷ []) ≡ e
    → side_of client (calls ++ x ∷ []) ≡ side_of client calls ++ e
unfolding side_of
side_of-push client calls x e is =
    filter_map-append (λ (x : Step). entry_at client x.client x.entry) calls (x ∷ [])
    ∙ ap (λ (l : List Entry). side_of client calls ++ l) is

at_here : (side : Side) (e : Entry) → side_of (is_client side) (mux_call side e ∷ []) ≡ e ∷ []
unfolding side_of
at_here Plugin e = refl
at_here Agent e = refl

at_there : (side : Side) (e : Entry)
    → side_of (is_client (other side)) (mux_call side e ∷ []) ≡ []
unfolding side_of
at_there Plugin e = refl
at_there Agent e = refl

-- a call at one side
pub mux_history-here : (past : Past) (side : Side) (e : Entry)
    → mux_history side (with_call past side e) ≡ mux_history side past ++ e ∷ []
mux_history-here past side e =
    side_of-push (is_client side) past.calls (mux_call side e) (e ∷ []) (at_here side e)

-- is none at the other
pub mux_history-there : (past : Past) (side : Side) (e : Entry)
    → mux_history (other side) (with_call past side e) ≡ mux_history (other side) past
mux_history-there past side e =
    side_of-push (is_client (other side)) past.calls (mux_call side e) [] (at_there side e)
    ∙ append-nil (mux_history (other side) past)

-- both sides
pub by_client : (P : Bool → Type 0) (side : Side) → P (is_client side) → P (is_client (other side))
    → (client : Bool) → P client
by_client P Plugin here there true = here
by_client P Plugin here there false = there
by_client P Agent here there true = there
by_client P Agent here there false = here

-- the pair is legal where both histories are
pub IsLegalPair-by : (past : Past) (side : Side)
    → IsLegal (is_client side) (mux_history side past)
    → IsLegal (is_client (other side)) (mux_history (other side) past)
    → IsLegalPair past.calls
IsLegalPair-by past side here there =
    by_client (λ client. IsLegal client (side_of client past.calls)) side here there

-- a call that gets its answer
pub IsLegal-snoc : (client : Bool) (g : List Entry) (e : Entry)
    → IsLegal client g → Answers client g e → IsLegal client (g ++ e ∷ [])
unfolding IsLegal
IsLegal-snoc client g e legal answers = each_snoc (Answers client) g e legal answers

-- keeps the pair legal
pub IsLegalPair-call : (past : Past) (side : Side) (e : Entry)
    → IsLegalPair past.calls
    → Answers (is_client side) (mux_history side past) e
    → IsLegalPair (with_call past side e).calls
IsLegalPair-call past side e legal answers =
    let P : List Entry → Type 0 = λ g. IsLegal (is_client side) g in
    let Q : List Entry → Type 0 = λ g. IsLegal (is_client (other side)) g in
    IsLegalPair-by (with_call past side e) side
    (subst P (sym (mux_history-here past side e))
    (IsLegal-snoc (is_client side) (mux_history side past) e (legal (is_client side)) answers))
    (subst Q (sym (mux_history-there past side e)) (legal (is_client (other side))))

-- ---- new sides

-- a side at which nothing happened
pub IsCarrier-new : (client : Bool) (carrier : Carrier)
    → Stands client carrier.mux []
    → carrier.left ≡ []
    → IsCarrier client [] [] carrier
unfolding consumed
IsCarrier-new client carrier stands none = record { stands = stands; kept = none }

-- a link on which nothing happened
pub IsLink-new : (link : Link)
    → IsCarrier true [] [] link.plugin
    → IsCarrier false [] [] link.agent
    → IsLink beginning link
unfolding side_of history_of released_items bytes_of IsLegal
IsLink-new link plugin agent =
    record { legal = λ side. tt; plugin = plugin; agent = agent }
