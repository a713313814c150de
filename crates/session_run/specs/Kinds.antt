-- Which answers a call can get at all, whatever was called before it.
use Rattle.std.specs.Prelude.{◌≡◌}
use Rattle.chan_values.specs.declared.item.Item.{Item}
use Rattle.channel_core.specs.declared.answer.Put.{Put}
use Rattle.channel_core.specs.declared.call.EndAnswer.{EndAnswer}
use Rattle.channel_core.specs.declared.call.EndCall.{EndCall}
use Rattle.channel_core.specs.Condition.{CanBeEncoded, IfEmitted}
use Rattle.session_run.specs.declared.shelf_call.ShelfAnswer.{ShelfAnswer}
use Rattle.session_run.specs.declared.shelf_call.ShelfCall.{ShelfCall}

-- a put that gets no number hands the item back
abbrev pub HandsBack : Item → Put → Type 0
HandsBack item (Put.Seq n) = Unit {0}
HandsBack item (Put.Closed back) = back ≡ item
HandsBack item (Put.Past back) = back ≡ item
HandsBack item (Put.Spent back) = back ≡ item
HandsBack item (Put.Full back) = back ≡ item

-- the answer is of the call's kind; a put that gets no number hands the item back, and what a pull
-- gives out can be encoded
abbrev pub IsEndAnswer : EndCall → EndAnswer → Type 0
IsEndAnswer (EndCall.Put item id now) (EndAnswer.Put put) = HandsBack item put
IsEndAnswer (EndCall.PutLast item id now) (EndAnswer.Put put) = HandsBack item put
IsEndAnswer (EndCall.Heard now incoming) (EndAnswer.Heard heard) = Unit {0}
IsEndAnswer (EndCall.Tick now) (EndAnswer.Tick tick) = Unit {0}
IsEndAnswer (EndCall.Pull now) (EndAnswer.Pull pull) = IfEmitted pull CanBeEncoded
IsEndAnswer EndCall.Lost EndAnswer.Done = Unit {0}
IsEndAnswer (EndCall.Opened now) EndAnswer.Done = Unit {0}
IsEndAnswer EndCall.Close EndAnswer.Done = Unit {0}
IsEndAnswer EndCall.Look (EndAnswer.Look look) = Unit {0}
IsEndAnswer call answer = ⊥

-- the answer is of the call's kind
abbrev pub IsShelfAnswer : ShelfCall → ShelfAnswer → Type 0
IsShelfAnswer (ShelfCall.Add parcel) ShelfAnswer.Added = Unit {0}
IsShelfAnswer (ShelfCall.Add parcel) ShelfAnswer.NoMemory = Unit {0}
IsShelfAnswer ShelfCall.First (ShelfAnswer.First parcel) = Unit {0}
IsShelfAnswer ShelfCall.Count (ShelfAnswer.Count count) = Unit {0}
IsShelfAnswer ShelfCall.Opening ShelfAnswer.Done = Unit {0}
IsShelfAnswer (ShelfCall.Finish fault) ShelfAnswer.Done = Unit {0}
IsShelfAnswer call answer = ⊥
