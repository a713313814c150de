-- What follows from the rule of the lock, and how it is kept where one view changes.
use Rattle.std.proofs.Common.{◌≡◌, ℕ, subst, cond, ◌+◌, ◌*◌, ◌-◌, ◌^◌, ◌<◌, ◌≤◌, ◌≢◌, Bool, true, false, List, [], length, get_or, set, sym, refl, ap, ◌∙◌, ⊎_elim, arith, length-set, Option, Some}
use mathlib.Core.Option.{none, some}
use mathlib.Core.Option as maybe
use mathlib.Core.Logic.{dite}
use native.Mathlib.Decide.{ℕ_discrete, dec_lt}
use native.Mathlib.Nat.{mul-pos}
use Rattle.std.specs.Option.{is_some}
use Rattle.std.proofs.lemmas.Nat.{pow_pos, pow-add}
use lib.ListN.{get_elem?}
use Rattle.atomic_table.specs.Table.{State, Me, Act, keeps, stepped, Valid, carried_after}
use Rattle.atomic_table.proofs.Lists.{at_set, set_here, set_else, set_again}
use Rattle.turn_lock.specs.declared.value.Turn.{Ghosts}
use Rattle.turn_lock.specs.declared.view.Entry.{Entry}
use Rattle.turn_lock.specs.declared.view.Share.{Share}
use Rattle.turn_lock.specs.declared.view.Stage.{Stage}
use Rattle.turn_lock.specs.declared.view.Stage.TheVariants.{Waits}
use Rattle.turn_lock.specs.declared.view.View.{View}
use Rattle.turn_lock.specs.declared.view.Locked.{Locked}
use Rattle.turn_lock.specs.Histories.{calls_of, entries_of}
use Rattle.turn_lock.specs.Stages.{ticket_of, has_ticket, is_serving, is_spent}
use Rattle.turn_lock.specs.Views.{IsWhole, HasAll, parts_at}
use Rattle.turn_lock.specs.Rule.{Slot, tickets_out, parts_out, InStage, IsLive, StandsFor, IsTicketLock}
use Rattle.turn_lock.proofs.PlaceLemmas.{At, same_there, at_below, at_get, each_before, sum_by-set_at, sum_by_two, upper_bound}
use Rattle.turn_lock.proofs.StageLemmas.{serving_lives, live_up, ticket_served}

pub bool_cases : {P : Type 0} (b : Bool) → (b ≡ true → P) → (b ≡ false → P) → P
bool_cases true f g = f refl
bool_cases false f g = g refl

-- 1 with a ticket, else 0
abbrev pub ticket_in : {C A : Type 0} → Stage C A → ℕ
ticket_in g = cond (has_ticket g) 1 0

module _ {C A T : Type 0} where
  -- the tickets that are out, once a view changed
  pub tickets_out-set : (views : List (View C A T)) (i : ℕ) (v w : View C A T) → At views i v
      → tickets_out (set views i w) + ticket_in v.stage ≡ tickets_out views + ticket_in w.stage
  tickets_out-set views i v w at = sum_by-set_at (λ (u : View C A T). ticket_in u.stage) views i v w at

  -- and where its ticket stayed
  pub tickets_out_same : (views : List (View C A T)) (i : ℕ) (v w : View C A T) → At views i v
      → ticket_of w.stage ≡ ticket_of v.stage → tickets_out (set views i w) ≡ tickets_out views
  tickets_out_same views i v w at stays =
      let sum = tickets_out-set views i v w at in
      let one : ticket_in w.stage ≡ ticket_in v.stage = ap (λ (o : Option ℕ). cond (is_some o) 1 0) stays in
      omega arith

module _ {V C A T : Type 0} (t : Ghosts V C A T) (made_with : T) where
  abbrev pub D : Type 0
  D = View C A T

  abbrev pub St : Type 0
  St = State (Slot V C A) D

  abbrev pub M : Type 0
  M = Me (Slot V C A) D

  abbrev pub H : Type 0
  H = List (Entry C A)

  abbrev pub Rule : St → Type 0
  Rule s = IsTicketLock t.legal t.stands t.setting made_with s

  -- the value is in the slot, and stands for h
  abbrev pub AtHome : H → List (maybe.Option (Slot V C A)) → Type 0
  AtHome h homes = (x : Locked V C A) × At homes 0 (some (Some x))
      × StandsFor t.legal t.stands t.setting made_with h x

  -- no seat holds the value
  abbrev pub NoTurn : List D → Type 0
  NoTurn views = (j : ℕ) (v : D) → At views j v → is_serving v.stage ≡ false

  -- the ticket that is drawn next
  abbrev pub next_of : (s : St) → Rule s → ℕ
  next_of s r = length r.log + tickets_out s.views

  -- what is true of a seat
  abbrev pub Live : (s : St) → Rule s → ℕ → D → Type 0
  Live s r j v = IsLive made_with r.log r.owner (next_of s r) j v

  -- no turn was out before, where none is now and the seat had none
  pub no_turn : (s : St) (id : ℕ) (v w : D) → At s.views id v → is_serving v.stage ≡ false
      → NoTurn (set s.views id w) → NoTurn s.views
  no_turn s id v w at off now = each_before (λ (u : D). is_serving u.stage ≡ false) s.views id v w at off now

  -- where a ticket is served that waits, no turn is out
  pub free_turn : (s : St) (r : Rule s) (id : ℕ) (v : D) (k : ℕ) → At s.views id v → v.stage ≡ Waits k
      → k ≡ length r.log → NoTurn s.views
  free_turn s r id v k at st is j u e = bool_cases (is_serving u.stage)
      (λ on.
      let live = r.each j u e (serving_lives u.stage on) in
      let ticket = ticket_served made_with r.log r.owner j u (next_of s r) u.stage live.in_stage on in
      let same : j ≡ id = r.apart j id u v (length r.log) e at ticket (ap ticket_of st ∙ ap Some is) in
      ap (λ (z : D). is_serving z.stage) (same_there s.views j id u v same e at) ∙ ap is_serving st)
      (λ off. off)

  -- where the history stays, a seat that had seen all of it still has
  pub whole_same : (s : St) (r : Rule s) (id : ℕ) (v w : D) → At s.views id v → is_spent w.stage ≡ false
      → (v.seen ≡ r.log → w.seen ≡ r.log)
      → (j : ℕ) × (u : D) × At (set s.views id w) j u × (is_spent u.stage ≡ false) × (u.seen ≡ r.log)
  whole_same s r id v w at lives seen = let m = r.whole in dite (ℕ_discrete m.0 id)
      (λ is.
      let same : m.1 ≡ v = same_there s.views m.0 id m.1 v is m.2 at in
      let all = seen (ap (λ (z : D). z.seen) (sym same) ∙ m.4) in
      (id, w, set_here s.views id w (at_below s.views id v at), lives, all))
      (λ other. (m.0, m.1, set_else s.views id m.0 w other ∙ m.2, m.3, m.4))

  -- a table with these words, slots and views
  abbrev pub table : List ℕ → List (maybe.Option (Slot V C A)) → List D → St
  table words homes views = record { words = words; homes = homes; views = views }

  -- what is left to show where one view becomes w, with the share that it had, and the history h
  pub record Changes (s : St) (r : Rule s) (id : ℕ) (w : D) (words : List ℕ)
      (homes : List (maybe.Option (Slot V C A))) (h : H) : Type 0 where
    pub two_words : length words ≡ 2
    pub one_slot : length homes ≡ 1
    pub served : get_or words 0 0 ≡ length h
    pub drawn : get_or words 1 0 ≡ length h + tickets_out (set s.views id w)
    pub fits : get_or words 1 0 < 2 ^ 64
    pub is_legal : t.legal made_with (calls_of h)
    pub home : NoTurn (set s.views id w) → AtHome h homes
    pub live : IsLive made_with h r.owner (length h + tickets_out (set s.views id w)) id w
    pub others : (j : ℕ) (u : D) → j ≢ id → At s.views j u → is_spent u.stage ≡ false
        → IsLive made_with h r.owner (length h + tickets_out (set s.views id w)) j u
    pub apart : (j : ℕ) (u : D) (k : ℕ) → j ≢ id → At s.views j u → ticket_of u.stage ≡ Some k
        → ticket_of w.stage ≡ Some k → ⊥
    pub not_given : (q : ℕ) → length s.views ≤ q → entries_of q h ≡ []
    pub whole : (j : ℕ) × (u : D) × At (set s.views id w) j u × (is_spent u.stage ≡ false) × (u.seen ≡ h)

  -- the rule is kept where one view changes
  pub change : (s : St) (r : Rule s) (id : ℕ) (v w : D) (words : List ℕ)
      (homes : List (maybe.Option (Slot V C A))) (h : H)
      → At s.views id v → is_spent w.stage ≡ false → w.share ≡ v.share → Changes s r id w words homes h
      → Rule (table words homes (set s.views id w))
  change s r id v w words homes h at lives share p =
      let near = at_below s.views id v at in
      let next : ℕ = length h + tickets_out (set s.views id w) in
      record {
        log = h;
        owner = r.owner;
        two_words = p.two_words;
        one_slot = p.one_slot;
        served = p.served;
        drawn = p.drawn;
        fits = p.fits;
        is_legal = p.is_legal;
        home = p.home;
        each = λ j u e sp. ⊎_elim
            (λ a.
            let Lives : ℕ × D → Type 0 = λ z. IsLive made_with h r.owner next z.0 z.1 in
            subst Lives (λ i. (sym a.0 i, a.1 i)) p.live)
            (λ a. p.others j u a.0 a.1 sp)
            (at_set s.views id j w u e);
        gone = λ j u e sp. ⊎_elim
            (λ a.
            let is : is_spent u.stage ≡ false = ap (λ (z : D). is_spent z.stage) (sym a.1) ∙ lives in
            absurd (cc))
            (λ a. r.gone j u a.1 sp)
            (at_set s.views id j w u e);
        apart = λ i j u u' k e e' f f'. ⊎_elim
            (λ a. ⊎_elim
            (λ b. a.0 ∙ sym b.0)
            (λ b. absurd (p.apart j u' k b.0 b.1 f' (ap (λ (z : D). ticket_of z.stage) a.1 ∙ f)))
            (at_set s.views id j w u' e'))
            (λ a. ⊎_elim
            (λ b. absurd (p.apart i u k a.0 a.1 f (ap (λ (z : D). ticket_of z.stage) b.1 ∙ f')))
            (λ b. r.apart i j u u' k a.1 b.1 f f')
            (at_set s.views id j w u' e'))
            (at_set s.views id i w u e);
        given = λ q lt. let m = r.given q (subst (λ (z : ℕ). q < z) (length-set s.views id w) lt) in
            dite (ℕ_discrete (r.owner q) id)
            (λ same. (w, ap (get_elem? (set s.views id w)) same ∙ set_here s.views id w near, lives))
            (λ other. (m.0, set_else s.views id (r.owner q) w other ∙ m.1, m.2));
        not_given = λ q le.
            let le' = subst (λ (z : ℕ). z ≤ q) (length-set s.views id w) le in
            ((r.not_given q le').0, p.not_given q le');
        whole = p.whole;
        shares = λ d deep.
            let sum : parts_out d (set s.views id w) + parts_at d v.share ≡ parts_out d s.views + parts_at d w.share
            = sum_by-set_at (λ (u : D). parts_at d u.share) s.views id v w at in
            let same : parts_at d w.share ≡ parts_at d v.share = ap (parts_at d) share in
            let below : v.share.depth ≤ d =
            subst (λ (z : Share). z.depth ≤ d) share (deep id w (set_here s.views id w near)) in
            let old : parts_out d s.views ≡ 2 ^ d =
            r.shares d (each_before (λ (u : D). u.share.depth ≤ d) s.views id v w at below deep) in
            omega arith;
      }

  -- the others, where no entry is made and no ticket goes
  pub rest_live : (s : St) (r : Rule s) (next : ℕ) → next_of s r ≤ next
      → (j : ℕ) (u : D) → At s.views j u → is_spent u.stage ≡ false → IsLive made_with r.log r.owner next j u
  rest_live s r next le j u e sp = live_up made_with r.log r.owner j u (next_of s r) next le (r.each j u e sp)

  -- a load changes no word
  pub loads : (s : St) (r : Rule s) (id : ℕ) (held : List (ℕ × Slot V C A)) (w : D)
      → Rule (table s.words s.homes (set s.views id w))
      → Rule (stepped s 0 (get_or s.words 0 0) id held w keeps)
  loads s r id held w kept =
      let two : length s.words ≡ 2 = r.two_words in
      let same : set s.words 0 (get_or s.words 0 0) ≡ s.words =
      set_again s.words 0 (get_or s.words 0 0) (at_get s.words 0 0 (omega arith)) in
      subst (λ (ws : List ℕ). Rule (table ws s.homes (set s.views id w))) (sym same) kept

  -- a view changes at a load, and keeps its share and its ticket
  pub looks : (s : St) (r : Rule s) (id : ℕ) (v w : D) → At s.views id v → is_spent w.stage ≡ false
      → is_serving v.stage ≡ false → w.share ≡ v.share → ticket_of w.stage ≡ ticket_of v.stage
      → Live s r id w → (v.seen ≡ r.log → w.seen ≡ r.log)
      → Rule (table s.words s.homes (set s.views id w))
  looks s r id v w at lives off share ticket live seen =
      let same : next_of s r ≡ length r.log + tickets_out (set s.views id w) =
      ap (λ (n : ℕ). length r.log + n) (sym (tickets_out_same s.views id v w at ticket)) in
      change s r id v w s.words s.homes r.log at lives share record {
        two_words = r.two_words;
        one_slot = r.one_slot;
        served = r.served;
        drawn = r.drawn ∙ same;
        fits = r.fits;
        is_legal = r.is_legal;
        home = λ none_out. r.home (no_turn s id v w at off none_out);
        live = subst (λ (n : ℕ). IsLive made_with r.log r.owner n id w) same live;
        others = λ j u _ e sp. rest_live s r (length r.log + tickets_out (set s.views id w))
            (omega arith) j u e sp;
        apart = λ j u k other e f f'. other (r.apart j id u v k e at f (sym ticket ∙ f'));
        not_given = λ q le. (r.not_given q le).1;
        whole = whole_same s r id v w at lives seen;
      }

  -- nothing changed
  pub stays : (s : St) (r : Rule s) (i id : ℕ) (me : M) → i < 2 → At s.views id me.0
      → Rule (stepped s i (get_or s.words i 0) id me.1 me.0 keeps)
  stays s r i id me lt at =
      let two : length s.words ≡ 2 = r.two_words in
      let words : set s.words i (get_or s.words i 0) ≡ s.words =
      set_again s.words i (get_or s.words i 0) (at_get s.words i 0 (omega arith)) in
      subst Rule (λ k. table (sym words k) s.homes (sym (set_again s.views id me.0 at) k)) r

  -- a seat that has the whole share is the only one that is not spent
  pub sole : (s : St) (r : Rule s) (id : ℕ) (v : D) → At s.views id v → IsWhole v.share
      → (j : ℕ) (u : D) → At s.views j u → is_spent u.stage ≡ false → j ≡ id
  sole s r id v at all j u e sp = dite (ℕ_discrete j id) (λ is. is) (λ other.
      let deep = upper_bound (λ (z : D). z.share.depth) s.views in
      let d : ℕ = deep.0 in
      let below : v.share.depth ≤ d = deep.1 id v at in
      let sum : parts_out d s.views ≡ 2 ^ d = r.shares d deep.1 in
      let two : parts_at d u.share + parts_at d v.share ≤ parts_out d s.views =
      sum_by_two (λ (z : D). parts_at d z.share) s.views j id u v e at other in
      let mine : parts_at d v.share ≡ 2 ^ d = ap (λ (z : ℕ). z * 2 ^ (d - v.share.depth)) all
      ∙ sym (pow-add 2 v.share.depth (d - v.share.depth))
      ∙ ap (λ (z : ℕ). 2 ^ z) (let g : v.share.depth + (d - v.share.depth) ≡ d = omega arith in g) in
      let some_parts : 0 < u.share.parts = (r.each j u e sp).has_share in
      let more : 0 < parts_at d u.share = mul-pos some_parts (pow_pos (d - u.share.depth)) in
      absurd (omega arith))

  -- so it has seen the whole history
  pub all_seen : (s : St) (r : Rule s) (id : ℕ) (v : D) → At s.views id v → IsWhole v.share → v.seen ≡ r.log
  all_seen s r id v at all =
      let m = r.whole in
      let same : m.0 ≡ id = sole s r id v at all m.0 m.1 m.2 m.3 in
      ap (λ (z : D). z.seen) (sym (same_there s.views m.0 id m.1 v same m.2 at)) ∙ m.4

  -- and has all entries among its own
  pub all_own : (s : St) (r : Rule s) (id : ℕ) (v : D) → At s.views id v → is_spent v.stage ≡ false
      → IsWhole v.share → (q : ℕ) → entries_of q r.log ≡ entries_of q v.mine
  all_own s r id v at lives all q = let mine = r.each id v at lives in dite (dec_lt q (length s.views))
      (λ given.
      let m = r.given q given in
      sym (mine.made_own q (sole s r id v at all (r.owner q) m.0 m.1 m.2)))
      (λ not_given.
      let le : length s.views ≤ q = omega arith in
      let own = r.not_given q le in
      let near = at_below s.views id v at in
      let is : r.owner q ≡ q = own.0 in
      own.1 ∙ sym (mine.no_others q (λ e. omega arith)))

  pub has_all : (s : St) (r : Rule s) (id : ℕ) (v : D) → At s.views id v → is_spent v.stage ≡ false
      → IsWhole v.share → HasAll v
  has_all s r id v at lives all q =
      ap (entries_of q) (all_seen s r id v at all) ∙ all_own s r id v at lives all q

  -- what the stage of a seat says
  pub stage_at : (s : St) (r : Rule s) (id : ℕ) (v : D) (g : Stage C A) → At s.views id v
      → is_spent v.stage ≡ false → v.stage ≡ g
      → InStage made_with r.log r.owner (next_of s r) id v g
  stage_at s r id v g at lives st =
      subst (λ (z : Stage C A). InStage made_with r.log r.owner (next_of s r) id v z) st
      (r.each id v at lives).in_stage

  -- what a step on the word i has to give, where the word becomes y
  abbrev pub Goes : St → ℕ → ℕ → M → (ℕ → M → Type 0) → ℕ → Type 0
  Goes s i id me told y = (w : D) × (a : Act (Slot V C A)) × Valid s.homes me.1 a
      × Rule (stepped s i y id me.1 w a)
      × told (get_or s.words i 0) (w, carried_after me.1 a)
