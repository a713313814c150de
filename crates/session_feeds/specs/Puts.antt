-- What a worker does with the items that it is to put in.
use Rattle.std.specs.Prelude.{◌≡◌, ℕ, Bool, true, false, ◌&&◌, Option, Some, None, ◌==◌, List, [], ◌∷◌, ◌++◌, map, length, Result, Ok, Err}
use Rattle.std.specs.List.{filter_map, fold}
use Rattle.chan_values.specs.declared.item.Item.{Item}
use Rattle.channel_core.specs.declared.answer.Put.{Put}
use Rattle.channel_core.specs.declared.call.EndAnswer.{EndAnswer}
use Rattle.channel_core.specs.declared.call.EndCall.{EndCall}
use Rattle.turn_lock.specs.Runs.{AllFit}
use Rattle.session_run.specs.Kinds.{HandsBack}

-- an item, and whether it is to be put in as the last of its direction
abbrev pub ToPut : Type 0
ToPut = Item × Bool

-- the call that puts it in
abbrev pub put_call : Bool → Item → List ℕ → ℕ → EndCall
put_call false item id now = EndCall.Put item id now
put_call true item id now = EndCall.PutLast item id now

-- the item that a call put in, and whether as the last
abbrev pub item_put : EndAnswer → EndCall → Option ToPut
item_put (EndAnswer.Put (Put.Seq n)) (EndCall.Put item id now) = Some (item, false)
item_put (EndAnswer.Put (Put.Seq n)) (EndCall.PutLast item id now) = Some (item, true)
item_put answer call = None

-- the items that these calls put in, in order
abbrev pub items_put : List (EndCall × EndAnswer) → List ToPut
items_put calls = filter_map (λ e. item_put e.1 e.0) calls

-- the items of a verdict: where it says so, the last of them is to be put in as the last
abbrev pub to_put : Bool → List Item → List ToPut
to_put last [] = []
to_put last (item ∷ items) = (item, last && (length items == 0)) ∷ to_put last items

-- an item that was put again and again while the window was full, until it got a number or a stop
pub record Trial : Type 0 where
  pub item : Item
  pub as_last : Bool
  -- the ids and moments of the puts that found the window full
  pub full : List (List ℕ × ℕ)
  -- those of the last put, and its answer
  pub id : List ℕ
  pub now : ℕ
  pub answer : Put

-- what was tried
abbrev pub tried : Trial → ToPut
tried t = (t.item, t.as_last)

-- one call that found the window full
abbrev pub full_call : Bool → Item → List ℕ × ℕ → EndCall × EndAnswer
full_call last item p = (put_call last item p.0 p.1, EndAnswer.Put (Put.Full item))

-- its calls of the end
abbrev pub trial_calls : Trial → List (EndCall × EndAnswer)
trial_calls t =
    map (full_call t.as_last t.item) t.full
    ++ (put_call t.as_last t.item t.id t.now, EndAnswer.Put t.answer) ∷ []

-- the answer is a number, or a stop that hands the item back
abbrev pub IsLast : Item → Put → Type 0
IsLast item (Put.Full back) = ⊥
IsLast item put = HandsBack item put

-- the answer of a put that ends all puts of a worker
abbrev pub is_stop : Put → Bool
is_stop (Put.Seq n) = false
is_stop put = true

-- the answer of one put, of which Full is told apart
abbrev pub answer_once : Result Put Item → Put
answer_once (Ok put) = put
answer_once (Err item) = Put.Full item

-- the answer hands the item back, or gives it a number
abbrev pub IsAnswerOnce : Item → Result Put Item → Type 0
IsAnswerOnce item (Ok put) = IsLast item put
IsAnswerOnce item (Err back) = back ≡ item

-- a trial comes only where none before it was stopped
abbrev pub MayTry : Bool → Trial → Type 0
MayTry stopped t = (stopped ≡ false) × IsLast t.item t.answer

-- whether this trial was stopped
abbrev pub stopped_by : Bool → Trial → Bool
stopped_by before t = is_stop t.answer

-- of what a worker was given, each was tried in order until one was stopped; the others were left
pub record PutsPrefix (given : List ToPut) (trials : List Trial) (stopped : Bool) : Type 0 where
  pub left : List ToPut
  pub items : given ≡ map tried trials ++ left
  pub may : AllFit stopped_by MayTry false trials
  pub stops : stopped ≡ fold stopped_by false trials
  pub all : stopped ≡ false → left ≡ []
