-- What a feeder gives.
use Rattle.std.specs.Prelude.{◌≤◌, ℕ, Option, Some, None, List, [], ◌∷◌, length}
use Rattle.chan_values.specs.Limits.{max_payload}
use Rattle.chan_values.specs.declared.item.Item.{Item}
use Rattle.session_feeds.specs.declared.feeder.Came.{Came}
use Rattle.session_feeds.specs.declared.feeder.Fed.{Fed}
use Rattle.session_feeds.specs.Marks.{Told}

module _ {F : Type 0} where
  -- the piece that was given, if one was
  abbrev pub pieces_by : Fed F → List Item
  pieces_by (Fed.Piece item) = item ∷ []
  pieces_by fed = []

  -- whether that was the end
  abbrev pub came_by : Fed F → Option Came
  came_by Fed.Over = Some Came.Over
  came_by Fed.Failed = Some Came.Failed
  came_by fed = None

  -- the mark of the feeder that was given, if one was
  abbrev pub marks_by : (F → Told) → Fed F → List ℕ
  marks_by told (Fed.Another feeder) = (told feeder).mark ∷ []
  marks_by told fed = []

  -- a piece fits into a message
  abbrev pub Fits : Fed F → Type 0
  Fits (Fed.Piece item) = length item.payload ≤ max_payload
  Fits fed = Unit {0}

  -- this holds of the feeder that was given, if one was
  abbrev pub IfAnother : Fed F → (F → Type 0) → Type 0
  IfAnother (Fed.Another feeder) P = P feeder
  IfAnother fed P = Unit {0}

  -- this holds where it failed
  abbrev pub IfFailed : Fed F → Type 0 → Type 0
  IfFailed Fed.Failed P = P
  IfFailed fed P = Unit {0}
