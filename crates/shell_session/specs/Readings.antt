-- A feeder that reads a source.
use Rattle.std.specs.Prelude.{◌≡◌, ◌<◌, ℕ, ◌+◌, ◌*◌, ◌^◌, Option, Some, None, IfSome, List, [], ◌++◌, All, flat_map, length}
use Rattle.chan_io.specs.Sources.{Input}
use Rattle.chan_values.specs.declared.item.Item.{Item}
use Rattle.session_feeds.specs.Marks.{Told}
use Rattle.session_feeds.specs.declared.feeder.Came.{Came}
use Rattle.session_feeds.specs.declared.feeder.Came.TheVariants.{Over}

-- such a feeder, as contracts see it
pub record Reading : Type 0 where
  -- PayloadType of its pieces
  pub ptype : ℕ
  -- what its source told when it was made, and what it tells now
  pub first : Option Input
  pub now : Option Input
  pub pieces : List Item
  pub came : Option Came
  -- how many calls of its source failed
  pub faults : ℕ

-- a new one
abbrev pub new_reading : ℕ → Option Input → ℕ → Reading
new_reading ptype input faults =
    record {
      ptype = ptype;
      first = input;
      now = input;
      pieces = [];
      came = None;
      faults = faults;
    }

-- how many bytes a source had given, as far as it tells
abbrev pub given_before : Option Input → ℕ
given_before None = 0
given_before (Some input) = length input.given

-- the mark of a feeder of this type whose source had given this many bytes when it was made
abbrev pub mark_for : ℕ → ℕ → ℕ
mark_for ptype before = ptype + before * 2 ^ 32

-- what it tells of itself
abbrev pub told_by : Reading → Told
told_by r =
    record {
      mark = mark_for r.ptype (given_before r.first);
      children = [];
      pieces = r.pieces;
      came = r.came;
      faults = r.faults;
    }

-- a source that tells gave these bytes and no others between two moments
abbrev pub Gave : List ℕ → Option Input → Option Input → Type 0
Gave bytes None now = now ≡ None
Gave bytes (Some first) now =
    (left : List ℕ) × (now ≡ Some (record { given = first.given ++ bytes; left = left }))

-- the payloads of items, joined
abbrev pub payloads : List Item → List ℕ
payloads items = flat_map (λ item. item.payload) items

-- since it was made its source gave its pieces, which are of its type, and nothing else; where it
-- gave all, nothing is left
pub record IsReading (r : Reading) : Type 0 where
  pub short : r.ptype < 2 ^ 32
  pub typed : All (λ item. item.ptype ≡ r.ptype) r.pieces
  pub gave : Gave (payloads r.pieces) r.first r.now
  pub ended : r.came ≡ Some Over → IfSome r.now (λ input. input.left ≡ [])
