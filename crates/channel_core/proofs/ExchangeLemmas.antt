-- After an exchange each end has released all that the other put in.
use Rattle.std.proofs.Common.{◌≡◌, ℕ, ◌<◌, ◌≤◌, true, List, [], ◌∷◌, ◌++◌, ⊎_elim, refl, sym, ap, subst, ◌∙◌, append_assoc, arith, length}
use Rattle.std.proofs.lemmas.Bool.{both_ways, cases_lt}
use Rattle.std.proofs.lemmas.List.{length-map, take_all}
use Rattle.std.proofs.lemmas.List.Elements.{Contains-push}
use Rattle.chan_values.specs.declared.side.Side.{Side}
use Rattle.chan_values.specs.declared.side.Side.TheVariants.{Plugin, Agent}
use Rattle.chan_values.specs.Sides.{other}
use Rattle.channel_core.specs.declared.call.EndAnswer.{EndAnswer}
use Rattle.channel_core.specs.declared.call.EndCall.{EndCall}
use Rattle.channel_core.specs.declared.message.Outgoing.{Outgoing}
use Rattle.channel_core.specs.declared.answer.Pull.{Pull}
use Rattle.channel_core.specs.Call.{Entry}
use Rattle.channel_core.specs.Exchange.{IsHeard, IsPass, IsPulled, incoming_of, opening}
use Rattle.channel_core.specs.History.{PutMessage, emissions, next_in_order, put_items, put_messages, released_items, taken_items}
use Rattle.channel_core.specs.Laws.{ExchangeReleasesAll}
use Rattle.channel_core.specs.Legal.{IsAnswered}
use Rattle.channel_core.specs.Numbers.{has_number, numbers_of}
use Rattle.channel_core.specs.World.{Event, IsHonest, IsLegalWorld, WasEmitted, history_of}
use Rattle.channel_core.proofs.AgreementLemmas.{Agree}
use Rattle.channel_core.proofs.ReceiverLemmas.{agree}
use Rattle.channel_core.proofs.DeliveryLemmas.{released_items-front}
use Rattle.channel_core.proofs.HistoryLemmas.{is_paused-push, is_up-push, sent_since_opened-push}
use Rattle.channel_core.proofs.NumberLemmas.{least_absent-is}
use Rattle.channel_core.proofs.SoundLemmas.{IsConsistent, sound}
use Rattle.channel_core.proofs.WorldLemmas.{append_two, IsHonest-push, IsLegalWorld-front, IsLegalWorld-pushed, WasEmitted-of, history_of-away, history_of-here, history_of-there, other-other}
use Rattle.channel_core.proofs.PassLemmas.{Hears, IsPassed, IsReady, hears, passed, pulled}
use Rattle.channel_core.proofs.IdleLemmas.{AllTaken, BothReady, GoesOn, Unclosed, Unclosed-front, goes_on, goes_on-join, idle_passed, idle_taken, ready_back}

-- one emission and its hearing
pair_after : (w : ℕ) (side : Side) (world : List Event) (x y : Event) (out : Outgoing)
    → IsPulled side (Pull.Emit out) x
    → IsHeard (other side) (incoming_of out) y
    → IsLegalWorld w ((world ++ x ∷ []) ++ y ∷ [])
    → IsHonest world
    → Unclosed ((world ++ x ∷ []) ++ y ∷ [])
    → BothReady world
    → IsHonest ((world ++ x ∷ []) ++ y ∷ []) × GoesOn world ((world ++ x ∷ []) ++ y ∷ [])
pair_after w side world x y out is_pulled is_heard legal honest unclosed ready =
    let one = world ++ x ∷ [] in
    let s = history_of side world in
    let r = history_of (other side) world in
    let legal_y = IsLegalWorld-pushed w one y legal in
    let s1 = history_of-here side world x is_pulled.side in
    let r1 = history_of-away side world x is_pulled.side in
    let s2 = history_of-there side one y is_heard.side ∙ s1 in
    let r2 : history_of (other side) (one ++ y ∷ []) ≡ r ++ y.entry ∷ []
    = history_of-here (other side) one y is_heard.side
    ∙ ap (λ (h : List Entry). h ++ y.entry ∷ []) r1 in
    let left = pulled s side x out is_pulled in
    let honest_x : IsHonest one = IsHonest-push world x honest (λ _. rw is_pulled.call tt) in
    let heard_call = EndCall.Heard is_heard.now (incoming_of out) in
    let emitted : WasEmitted (emissions (history_of side one)) heard_call
    = rw (s1, left.emitted)
    (WasEmitted-of (emissions s ++ out ∷ []) is_heard.now out (Contains-push (emissions s) out)) in
    let honest_y : IsHonest (one ++ y ∷ [])
    = IsHonest-push one y honest_x
    (λ _. rw (is_heard.side, other-other side, is_heard.call) emitted) in
    let ends = agree w one legal_y.0 honest_x side in
    let answered : IsAnswered w (history_of (other side) one) heard_call y.entry.answer
    = subst
    (λ call. IsAnswered w (history_of (other side) one) call y.entry.answer) is_heard.call
    (subst (λ z. IsAnswered w (history_of z one) y.entry.call y.entry.answer) is_heard.side
    legal_y.1) in
    let unclosed_r = Unclosed-front one (y ∷ []) unclosed (other side) in
    let heard = hears w is_heard.now (history_of side one) (history_of (other side) one)
    out y.entry.answer ends emitted answered unclosed_r is_heard.memory in
    let heard_r : Hears r y.entry.call y.entry.answer out
    = subst (λ h. Hears h y.entry.call y.entry.answer out) r1
    (subst
    (λ call. Hears (history_of (other side) one) call y.entry.answer out)
    (sym is_heard.call) heard) in
    let both = passed s r x.entry y.entry out left heard_r (ready side)
    (ready_back side world ready) in
    (honest_y, goes_on side world (one ++ y ∷ []) (rw (s2, r2) both))

-- what a pass leaves
record PassLeaves (side : Side) (world next : List Event) : Type 0 where
  honest : IsHonest next
  on : GoesOn world next
  all : AllTaken (history_of side next) (history_of (other side) next)

pass_after : (w : ℕ) (side : Side) (xs world : List Event)
    → IsPass side xs
    → IsLegalWorld w (world ++ xs)
    → IsHonest world
    → Unclosed (world ++ xs)
    → BothReady world
    → PassLeaves side world (world ++ xs)
pass_after w side [] world pass legal honest unclosed ready = absurd pass
pass_after w side (x ∷ []) world pass legal honest unclosed ready =
    let s = history_of side world in
    let r = history_of (other side) world in
    let next = world ++ x ∷ [] in
    let s1 = history_of-here side world x pass.side in
    let r1 = history_of-away side world x pass.side in
    let legal_x = IsLegalWorld-pushed w world x legal in
    let answered : IsAnswered w s (EndCall.Pull pass.now) (EndAnswer.Pull Pull.Idle)
    = subst (λ answer. IsAnswered w s (EndCall.Pull pass.now) answer) pass.answer
    (subst (λ call. IsAnswered w s call x.entry.answer) pass.call
    (subst (λ z. IsAnswered w (history_of z world) x.entry.call x.entry.answer) pass.side
    legal_x.1)) in
    let ends = agree w world legal_x.0 honest side in
    let unclosed_s = Unclosed-front world (x ∷ []) unclosed side in
    let back = ready_back side world ready in
    let both : IsPassed s r (s ++ x.entry ∷ []) r = idle_passed s r side x pass (ready side) back in
    let all = idle_taken w pass.now s r ends (ready side) unclosed_s answered in
    record {
      honest = IsHonest-push world x honest (λ _. rw pass.call tt);
      on = goes_on side world next (rw (s1, r1) both);
      all = rw (s1, r1)
          (λ n below. all n (subst (λ (ms : List PutMessage). n < length ms) both.put_s below));
    }
pass_after w side (x ∷ y ∷ xs) world pass legal honest unclosed ready =
    let two = (world ++ x ∷ []) ++ y ∷ [] in
    let same = append_two world xs x y in
    let legal_two : IsLegalWorld w (two ++ xs) = rw same legal in
    let unclosed_two : Unclosed (two ++ xs) = rw same unclosed in
    let pair = pair_after w side world x y pass.0 pass.1 pass.2
    (IsLegalWorld-front w two xs legal_two) honest (Unclosed-front two xs unclosed_two) ready in
    let rest = pass_after w side xs two pass.3 legal_two pair.0 unclosed_two pair.1.ready in
    subst (PassLeaves side world) same
    (record {
      honest = rest.honest;
      on = goes_on-join world two (two ++ xs) pair.1 rest.on;
      all = rest.all;
    })

-- a new connection makes an end ready
opening_ready : (side : Side) (world : List Event) (now : ℕ)
    → (r : List Entry)
    → IsReady (history_of side (world ++ opening side now ∷ [])) r
opening_ready side world now r =
    let h = history_of side world in
    let x = opening side now in
    rw (history_of-here side world x refl)
    (record {
      up = is_up-push h x.entry;
      running = is_paused-push h x.entry;
      sent = λ n there.
          let none : has_number [] n ≡ true
          = ap (λ (l : List ℕ). has_number l n) (sym (sent_since_opened-push h x.entry)) ∙ there in
          cc;
    })

-- both ends after their openings
abbrev pub openings : List Event → ℕ → ℕ → List Event
openings world plugin agent = (world ++ opening Plugin plugin ∷ []) ++ opening Agent agent ∷ []

openings_ready : (world : List Event) (plugin agent : ℕ) → BothReady (openings world plugin agent)
openings_ready world plugin agent Plugin =
    let one = world ++ opening Plugin plugin ∷ [] in
    let next = one ++ opening Agent agent ∷ [] in
    rw (history_of-there Plugin one (opening Agent agent) refl)
    (opening_ready Plugin world plugin (history_of Agent next))
openings_ready world plugin agent Agent =
    let one = world ++ opening Plugin plugin ∷ [] in
    opening_ready Agent one agent (history_of Plugin (one ++ opening Agent agent ∷ []))

openings_honest : (world : List Event) (plugin agent : ℕ)
    → IsHonest world
    → IsHonest (openings world plugin agent)
openings_honest world plugin agent honest =
    IsHonest-push (world ++ opening Plugin plugin ∷ []) (opening Agent agent)
    (IsHonest-push world (opening Plugin plugin) honest (λ _. tt)) (λ _. tt)

-- an exchange in its parts
pub openings_parts : (world to_agent to_plugin : List Event) (plugin agent : ℕ)
    → (openings world plugin agent ++ to_agent) ++ to_plugin
    ≡ world ++ (opening Plugin plugin ∷ opening Agent agent ∷ (to_agent ++ to_plugin))
openings_parts world to_agent to_plugin plugin agent =
    let p = opening Plugin plugin in
    let a = opening Agent agent in
    append_assoc ((world ++ p ∷ []) ++ a ∷ []) to_agent to_plugin
    ∙ append_assoc (world ++ p ∷ []) (a ∷ []) (to_agent ++ to_plugin)
    ∙ append_assoc world (p ∷ []) (a ∷ (to_agent ++ to_plugin))

-- all that is taken in full is released in full
all_released : (w : ℕ) (s r : List Entry)
    → Agree w s r
    → IsConsistent w r
    → AllTaken s r
    → released_items r ≡ put_items s
all_released w s r agree sound all =
    let next = next_in_order r in
    let taken = numbers_of (taken_items r) in
    let count : length (put_items s) ≡ length (put_messages s) = simp length-map refl in
    let far : length (put_messages s) ≤ next
    = ⊎_elim
    (λ (less : next < length (put_messages s)).
    absurd (both_ways (has_number taken next) (least_absent-is taken).0 (all next less)))
    (λ (more : length (put_messages s) ≤ next). more)
    (cases_lt next (length (put_messages s))) in
    released_items-front w s r agree sound ∙ take_all next (put_items s) (omega (arith, count, far))

pub exchange_releases_all : ExchangeReleasesAll
exchange_releases_all w world xs side legal honest exchange unclosed =
    let start = openings world exchange.plugin_opened exchange.agent_opened in
    let first = exchange.to_agent in
    let second = exchange.to_plugin in
    let middle = start ++ first in
    let end = middle ++ second in
    let same : end ≡ world ++ xs
    = openings_parts world first second exchange.plugin_opened exchange.agent_opened
    ∙ ap (λ (l : List Event). world ++ l) (sym exchange.parts) in
    let legal_end : IsLegalWorld w end = rw same legal in
    let unclosed_end : Unclosed end = rw same unclosed in
    let to_agent = pass_after w Plugin first start exchange.first
    (IsLegalWorld-front w middle second legal_end)
    (openings_honest world exchange.plugin_opened exchange.agent_opened honest)
    (Unclosed-front middle second unclosed_end)
    (openings_ready world exchange.plugin_opened exchange.agent_opened) in
    let to_plugin = pass_after w Agent second middle exchange.second
    legal_end to_agent.honest unclosed_end to_agent.on.ready in
    let plugin : AllTaken (history_of Plugin end) (history_of Agent end)
    = λ n below.
    to_plugin.on.taken Agent n
    (to_agent.all n
    (subst (λ (ms : List PutMessage). n < length ms) (to_plugin.on.put Plugin) below)) in
    let ends = agree w end legal_end to_plugin.honest side in
    let sound_r = sound w (history_of (other side) end) (legal_end (other side)) in
    subst
    (λ all. released_items (history_of (other side) all) ≡ put_items (history_of side all)) same
    (all_released w (history_of side end) (history_of (other side) end) ends sound_r
    (by_side end side plugin to_plugin.all))
  where
    by_side : (end : List Event) (side : Side)
        → AllTaken (history_of Plugin end) (history_of Agent end)
        → AllTaken (history_of Agent end) (history_of Plugin end)
        → AllTaken (history_of side end) (history_of (other side) end)
    by_side end Plugin plugin agent = plugin
    by_side end Agent plugin agent = agent
