-- One turn of both ends of a replay.
use Rattle.std.proofs.Common.{◌≡◌, ℕ, ◌+◌, ◌-◌, ◌<◌, ◌≤◌, Bool, true, false, cond, ◌||◌, List, [], ◌∷◌, ◌++◌, refl, sym, subst, ◌∙◌, arith}
use Rattle.chan_values.specs.declared.side.Side.TheVariants.{Plugin, Agent}
use Rattle.session_audit.specs.declared.reading.Saying.{Saying}
use Rattle.session_audit.specs.Halting.{BothPlayed, Turns}
use Rattle.session_audit.specs.Moves.{Move, acts_at, move_of}
use Rattle.session_audit.specs.Playing.{GoesOn, IsHeld, IsNewSeat, SeatState, acts_before}
use Rattle.session_audit.proofs.MoveLemmas.{IsRun-nil, IsRun-push, acts_at-there}
use Rattle.session_audit.proofs.PlayLemmas.{played_new}
use Rattle.session_audit.proofs.SaidLemmas.{acts_before-start}

-- before the first turn
nothing_moved_plugin : (sayings : List Saying) → acts_at Plugin [] ≡ acts_before Plugin sayings 0
unfolding acts_at
nothing_moved_plugin sayings = sym (acts_before-start Plugin sayings)

nothing_moved_agent : (sayings : List Saying) → acts_at Agent [] ≡ acts_before Agent sayings 0
unfolding acts_at
nothing_moved_agent sayings = sym (acts_before-start Agent sayings)

pub both_new : (w : ℕ) (sayings : List Saying) (plugin agent : SeatState)
    → IsNewSeat w plugin
    → IsNewSeat w agent
    → BothPlayed w sayings [] plugin agent
both_new w sayings plugin agent p a =
    record {
      run = IsRun-nil w;
      plugin_played = played_new w Plugin sayings plugin p;
      agent_played = played_new w Agent sayings agent a;
      plugin_done = subst (λ (n : ℕ). acts_at Plugin [] ≡ acts_before Plugin sayings n) (sym p.next)
          (nothing_moved_plugin sayings);
      agent_done = subst (λ (n : ℕ). acts_at Agent [] ≡ acts_before Agent sayings n) (sym a.next)
          (nothing_moved_agent sayings);
    }

-- what became of the plugin's end
PluginWent : ℕ → List Saying → List Move → SeatState → SeatState → SeatState → Bool → Type 0
PluginWent w sayings moves plugin agent new done =
    (more : List Move)
    × BothPlayed w sayings more new agent
    × (done ≡ true → plugin.next < new.next)
    × (plugin.next ≤ new.next)
    × (done ≡ false → (more ≡ moves) × IsHeld w Plugin sayings more new.next)

plugin_goes : (w : ℕ) (sayings : List Saying) (moves : List Move) (plugin agent new : SeatState)
    (done : Bool)
    → BothPlayed w sayings moves plugin agent
    → GoesOn Plugin sayings plugin new agent done
    → PluginWent w sayings moves plugin agent new done
unfolding PluginWent
plugin_goes w sayings moves plugin agent new true b goes =
    let r = goes w moves b.plugin_played b.plugin_done b.agent_played b.agent_done in
    let it = r.1 refl in
    let m = move_of Plugin it.0 in
    let less = it.3 in (
      moves ++ m ∷ [],
      record {
        run = IsRun-push w moves m b.run it.1;
        plugin_played = r.0;
        agent_played = b.agent_played;
        plugin_done = it.2;
        agent_done = acts_at-there Agent moves m refl ∙ b.agent_done;
      },
      λ _. less,
      omega (arith, less),
      λ refuses. absurd (cc),
    )
plugin_goes w sayings moves plugin agent new false b goes =
    let r = goes w moves b.plugin_played b.plugin_done b.agent_played b.agent_done in
    let it = r.2 refl in (
      moves,
      record {
        run = b.run;
        plugin_played = r.0;
        agent_played = b.agent_played;
        plugin_done = it.0;
        agent_done = b.agent_done;
      },
      λ refuses. absurd (cc),
      it.1,
      λ _. (refl, it.2),
    )

-- and then of the agent's
pub turned : (sayings : List Saying) (plugin agent new_plugin new_agent : SeatState)
    (first second : Bool)
    → GoesOn Plugin sayings plugin new_plugin agent first
    → GoesOn Agent sayings agent new_agent new_plugin second
    → Turns sayings plugin agent new_plugin new_agent (first || second)
unfolding PluginWent
turned sayings plugin agent new_plugin new_agent first true goes then w moves b =
    let p = plugin_goes w sayings moves plugin agent new_plugin first b goes in
    let r = then w p.0 p.1.agent_played p.1.agent_done p.1.plugin_played p.1.plugin_done in
    let it = r.1 refl in
    let m = move_of Agent it.0 in
    let forth = p.3 in
    let less = it.3 in (
      p.0 ++ m ∷ [],
      record {
        run = IsRun-push w p.0 m p.1.run it.1;
        plugin_played = p.1.plugin_played;
        agent_played = r.0;
        plugin_done = acts_at-there Plugin p.0 m refl ∙ p.1.plugin_done;
        agent_done = it.2;
      },
      λ _. omega (arith, forth, less),
      omega (arith, forth, less),
      λ refuses. absurd (never first refuses),
    )
  where
    never : (b : Bool) → (b || true) ≡ false → ⊥
    never true is = cc
    never false is = cc
turned sayings plugin agent new_plugin new_agent first false goes then w moves b =
    let p = plugin_goes w sayings moves plugin agent new_plugin first b goes in
    let r = then w p.0 p.1.agent_played p.1.agent_done p.1.plugin_played p.1.plugin_done in
    let it = r.2 refl in
    let forth = p.3 in
    let on = it.1 in (
      p.0,
      record {
        run = p.1.run;
        plugin_played = p.1.plugin_played;
        agent_played = r.0;
        plugin_done = p.1.plugin_done;
        agent_done = it.0;
      },
      λ yes. let less = p.2 (left first yes) in omega (arith, less, on),
      omega (arith, forth, on),
      λ refuses. ((p.4 (none first refuses)).1, it.2),
    )
  where
    left : (b : Bool) → (b || false) ≡ true → b ≡ true
    left true is = refl
    left false is = cc

    none : (b : Bool) → (b || false) ≡ false → b ≡ false
    none true is = cc
    none false is = refl

-- ---- the measure

-- what is left to do grows less with each turn, or the ends stop
pub smaller : (n a b : ℕ) (going : Bool)
    → (going ≡ true → a < b)
    → a ≤ b
    → b ≤ n
    → n - b + cond going 1 0 < n - a + 1
smaller n a b true less le most = let more = less refl in omega (arith, more, most)
smaller n a b false less le most = omega (arith, le, most)
