-- What a seat knows, as plain data: shares, and how a view changes at each step.
use Rattle.std.specs.Prelude.{◌≡◌, ℕ, ◌+◌, ◌-◌, ◌*◌, ◌^◌, max, List, [], ◌∷◌, ◌++◌}
use Rattle.turn_lock.specs.declared.view.Share.{Share}
use Rattle.turn_lock.specs.declared.view.Stage.{Stage}
use Rattle.turn_lock.specs.declared.view.Stage.TheVariants.{Fresh, Idle, Serves, Joined, Spent}
use Rattle.turn_lock.specs.declared.view.Entry.{Entry}
use Rattle.turn_lock.specs.declared.view.View.{View}
use Rattle.turn_lock.specs.declared.view.LastCall.{LastCall}
use Rattle.turn_lock.specs.Histories.{longer_of, entry, entries_of}

-- the share of all seats together
abbrev pub IsWhole : Share → Type 0
IsWhole share = share.parts ≡ 2 ^ share.depth

-- half of a share
abbrev pub half_of : Share → Share
half_of share = record { parts = share.parts; depth = share.depth + 1 }

-- how many parts of the size 1 / 2 ^ depth a share is, if it is some
abbrev pub parts_at : ℕ → Share → ℕ
parts_at depth share = share.parts * 2 ^ (depth - share.depth)

-- the sum of two shares
abbrev pub sum_of : Share → Share → Share
sum_of a b = let depth = max a.depth b.depth in record {
  parts = parts_at depth a + parts_at depth b;
  depth = depth;
}

-- the two are one fraction
abbrev pub SameShare : Share → Share → Type 0
SameShare a b = a.parts * 2 ^ b.depth ≡ b.parts * 2 ^ a.depth

module _ {C A T : Type 0} where
  -- the first seat of a lock
  abbrev pub first_view : T → View C A T
  first_view setting = record {
    setting = setting;
    number = 0;
    seen = [];
    mine = [];
    share = record { parts = 1; depth = 0 };
    stage = Idle;
  }

  -- the view at another stage
  abbrev pub at_stage : View C A T → Stage C A → View C A T
  at_stage v stage = record v { stage = stage }

  -- the history h was seen
  abbrev pub with_seen : View C A T → List (Entry C A) → View C A T
  with_seen v h = record v { seen = h }

  -- the ticket is served, and the history h was seen
  abbrev pub with_turn : View C A T → List (Entry C A) → ℕ → View C A T
  with_turn v h ticket = record v { seen = h; stage = Serves ticket }

  -- a call was made, and entered
  abbrev pub with_call : View C A T → LastCall C A → View C A T
  with_call v last = let e = entry v.number last.call.value last.answer.value in record v {
    seen = v.seen ++ e ∷ [];
    mine = v.mine ++ e ∷ [];
    stage = Idle;
  }

  -- the seat was told its number
  abbrev pub with_number : View C A T → ℕ → View C A T
  with_number v number = record v { number = number; stage = Idle }

  -- what a seat that was split keeps
  abbrev pub kept_half : View C A T → View C A T
  kept_half v = record v { share = half_of v.share }

  -- what the seat has that was split off: its parent's number, until it is told its own
  abbrev pub given_half : View C A T → View C A T
  given_half v = record {
    setting = v.setting;
    number = v.number;
    seen = v.seen;
    mine = [];
    share = half_of v.share;
    stage = Fresh;
  }

  -- what two seats were, of which w is joined into v
  abbrev pub merge_of : View C A T → View C A T → Stage C A
  merge_of v w = Joined record {
    seen = v.seen;
    mine = v.mine;
    other = w.number;
    other_seen = w.seen;
    other_mine = w.mine;
  }

  -- the view w was joined into v
  abbrev pub joined_view : View C A T → View C A T → View C A T
  joined_view v w = record v {
    seen = longer_of v.seen w.seen;
    mine = v.mine ++ w.mine;
    share = sum_of v.share w.share;
    stage = merge_of v w;
  }

  -- what is left of a seat that was joined into another
  abbrev pub spent_view : T → View C A T
  spent_view setting = record {
    setting = setting;
    number = 0;
    seen = [];
    mine = [];
    share = record { parts = 0; depth = 0 };
    stage = Spent;
  }

  -- for each number, the entries with it that were seen are, in order, those with it among its own
  abbrev pub HasAll : View C A T → Type 0
  HasAll v = (number : ℕ) → entries_of number v.seen ≡ entries_of number v.mine

  -- the entries with its own number that were seen are, in order, those with it among its own
  abbrev pub HasOwn : View C A T → Type 0
  HasOwn v = entries_of v.number v.seen ≡ entries_of v.number v.mine
