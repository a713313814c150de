-- The laws: what holds in every legal history of one end, and in every legal and honest world of two,
-- whatever is lost, repeated or reordered.
use Rattle.std.specs.Prelude.{◌≡◌, ◌≢◌, ◌↔◌, ℕ, ◌+◌, ◌-◌, ◌*◌, ◌<◌, ◌≤◌, true, false, Some, List, [], ◌∷◌, ◌++◌, length, slice_get}
use Rattle.std.specs.List.{All, AllPairs, Any, Contains}
use Rattle.chan_values.specs.declared.side.Side.{Side}
use Rattle.chan_values.specs.Sides.{other}
use Rattle.chan_values.specs.declared.item.Item.{Item}
use Rattle.receive_window.specs.Window.{items_in_order}
use Rattle.channel_core.specs.declared.call.EndAnswer.TheVariants as EndAnswer
use Rattle.channel_core.specs.declared.call.EndCall.TheVariants as EndCall
use Rattle.channel_core.specs.declared.answer.Heard.TheVariants as Heard
use Rattle.channel_core.specs.declared.answer.Put.{Put}
use Rattle.channel_core.specs.declared.message.Incoming.{Incoming}
use Rattle.channel_core.specs.Call.{Entry}
use Rattle.channel_core.specs.Condition.{CanBeEncoded, IsCallable}
use Rattle.channel_core.specs.Exchange.{IsExchange, pull_count}
use Rattle.channel_core.specs.History.{acked_numbers, emitted_acks, early_items, emissions, finished_count, has_ended, is_closed, is_paused, is_up, next_in_order, owed_acks, put_items, put_messages, released_items, taken_items, taken_messages, unacked_numbers}
use Rattle.channel_core.specs.Legal.{IsAnswered, IsLegal}
use Rattle.channel_core.specs.Numbers.{has_number}
use Rattle.channel_core.specs.Resending.{marked_due, sent_since_opened}
use Rattle.channel_core.specs.Since.{FindsRoom, IsAckOf, IsClosing, IsDueOf, IsEmissionOf, IsLoss, IsOpening, IsPause, IsSince, IsStart}
use Rattle.channel_core.specs.World.{Event, HearsEmitted, IsHonest, IsLegalWorld, history_of}

-- an end is up exactly where a connection was made and not lost since
abbrev pub UpIsOpenedLast : Type 0
UpIsOpenedLast = (h : List Entry) → (is_up h ≡ true) ↔ IsSince (λ _. IsOpening) IsLoss h

-- it is paused exactly where it heard a pause, and since then no start, and got no new connection
abbrev pub PausedIsPausedLast : Type 0
PausedIsPausedLast = (h : List Entry) → (is_paused h ≡ true) ↔ IsSince (λ _. IsPause) IsStart h

-- it is closed exactly where some entry closed it
abbrev pub ClosedIsClosedOnce : Type 0
ClosedIsClosedOnce = (h : List Entry) → (is_closed h ≡ true) ↔ Any IsClosing h

-- a number was sent on the present connection exactly where it was given out, and no connection was
-- made since
abbrev pub SentIsEmittedSinceOpened : Type 0
SentIsEmittedSinceOpened =
    (w : ℕ) (h : List Entry) (n : ℕ)
    → IsLegal w h
    → (has_number (sent_since_opened h) n ≡ true) ↔ IsSince (λ _. IsEmissionOf n) IsOpening h

-- a number is marked exactly where its timer expired, and it was not given out since
abbrev pub MarkedIsDueLast : Type 0
MarkedIsDueLast =
    (h : List Entry) (n : ℕ)
    → (has_number (marked_due h) n ≡ true) ↔ IsSince (λ _. IsDueOf n) (IsEmissionOf n) h

-- an acknowledgement is owed exactly where its message was taken or came late, with room to owe it,
-- and its number was not acknowledged since
abbrev pub OwedIsHeardLast : Type 0
OwedIsHeardLast =
    (w : ℕ) (h : List Entry) (n : ℕ) (id : List ℕ)
    → IsLegal w h
    → Contains (owed_acks w h) (n, id) ↔ IsSince (FindsRoom w n id) (IsAckOf n) h

-- no number is owed twice
abbrev pub EachNumberIsOwedOnce : Type 0
EachNumberIsOwedOnce = (w : ℕ) (h : List Entry) → AllPairs (λ p q. p.0 ≢ q.0) (owed_acks w h)

-- the second list begins with the first
abbrev pub IsPrefixOf : {X : Type 0} → List X → List X → Type 0
IsPrefixOf {X} xs ys = (rest : List X) × (xs ++ rest ≡ ys)

-- to the acknowledgements that were given out and are owed, in this order, more is added at the end
-- alone
abbrev pub AcksKeepTheirOrder : Type 0
AcksKeepTheirOrder =
    (w : ℕ) (h more : List Entry)
    → IsLegal w (h ++ more)
    → IsPrefixOf
    (emitted_acks h ++ owed_acks w h)
    (emitted_acks (h ++ more) ++ owed_acks w (h ++ more))

-- the numbers of the messages that an end took are pairwise different
abbrev pub EachNumberIsTakenOnce : Type 0
EachNumberIsTakenOnce =
    (w : ℕ) (h : List Entry) → IsLegal w h → AllPairs (λ p q. p.0 ≢ q.0) (taken_items h)

-- what an end released are the items that it took below its next number, by number
abbrev pub ReleasedIsInOrder : Type 0
ReleasedIsInOrder =
    (w : ℕ) (h : List Entry)
    → IsLegal w h
    → released_items h ≡ items_in_order (taken_items h) 0 (next_in_order h)

-- an end answers at most once that the last item is released
abbrev pub FinishedIsOnce : Type 0
FinishedIsOnce = (w : ℕ) (h : List Entry) → IsLegal w h → finished_count h ≤ 1

-- after an item that was put in as the last no other is put in
abbrev pub NothingFollowsTheLast : Type 0
NothingFollowsTheLast =
    (w : ℕ) (h more : List Entry)
    → IsLegal w (h ++ more)
    → has_ended h ≡ true
    → put_messages (h ++ more) ≡ put_messages h

-- the end of one direction leaves the other as it was: an end that answers so has put in what it had,
-- an end that puts in its last item has taken and released what it had, and neither is closed by it
pub record DirectionsEndApart : Type 0 where
  pub finished : (h : List Entry) (now : ℕ) (incoming : Incoming) (items : List Item)
      → (let e : Entry = record {
        call = EndCall.Heard now incoming;
        answer = EndAnswer.Heard (Heard.Finished items);
      } in
      (put_messages (h ++ e ∷ []) ≡ put_messages h)
      × (is_closed (h ++ e ∷ []) ≡ is_closed h))
  pub put_last : (h : List Entry) (item : Item) (id : List ℕ) (now : ℕ) (put : Put)
      → (let e : Entry = record {
        call = EndCall.PutLast item id now;
        answer = EndAnswer.Put put;
      } in
      (taken_messages (h ++ e ∷ []) ≡ taken_messages h)
      × (released_items (h ++ e ∷ []) ≡ released_items h)
      × (is_closed (h ++ e ∷ []) ≡ is_closed h))

-- how much an end with the window w keeps
pub record IsWithinWindow (w : ℕ) (h : List Entry) : Type 0 where
  pub unacked : length (unacked_numbers h) ≤ w
  pub early : length (early_items h) ≤ w - 1
  pub owed : length (owed_acks w h) ≤ w

-- an end keeps no more than its window
abbrev pub WindowBoundsMessages : Type 0
WindowBoundsMessages = (w : ℕ) (h : List Entry) → IsLegal w h → IsWithinWindow w h

-- what an end emits can be encoded, where each call was one that may be made
abbrev pub EmissionsCanBeEncoded : Type 0
EmissionsCanBeEncoded =
    (w : ℕ) (h : List Entry)
    → IsLegal w h
    → All (λ e. IsCallable e.call) h
    → All CanBeEncoded (emissions h)

-- a world of no events is legal and honest, and it stays so with each call that gets its answer and
-- hears nothing of the other end but what was emitted there, and with each that wants for the memory
-- of its answer
pub record WorldsGoOn : Type 0 where
  pub start : (w : ℕ) → IsLegalWorld w [] × IsHonest []
  pub next : (w : ℕ) (world : List Event) (x : Event)
      → IsLegalWorld w world
      → IsHonest world
      → IsAnswered w (history_of x.side world) x.entry.call x.entry.answer
      → HearsEmitted world x
      → IsLegalWorld w (world ++ x ∷ []) × IsHonest (world ++ x ∷ [])

-- what each end released is a prefix of what the other end put in
abbrev pub ReleasedIsPrefix : Type 0
ReleasedIsPrefix =
    (w : ℕ) (world : List Event) (end : Side)
    → IsLegalWorld w world
    → IsHonest world
    → IsPrefixOf (released_items (history_of end world)) (put_items (history_of (other end) world))

-- the item that s put in with this number has arrived at r: it is released there, or it is early
-- and waits for another
pub record HasArrived (s r : List Entry) (n : ℕ) : Type 0 where
  pub item : Item
  pub put : slice_get (put_items s) n ≡ Some item
  pub taken : Contains (taken_items r) (n, item)
  pub released : n < next_in_order r → slice_get (released_items r) n ≡ Some item
  pub early : next_in_order r ≤ n → Contains (early_items r) (n, item)

-- what one end was told as acknowledged has arrived at the other
abbrev pub AcknowledgedHasArrived : Type 0
AcknowledgedHasArrived =
    (w : ℕ) (world : List Event) (side : Side) (n : ℕ)
    → IsLegalWorld w world
    → IsHonest world
    → has_number (acked_numbers (history_of side world)) n ≡ true
    → HasArrived (history_of side world) (history_of (other side) world) n

-- no message that an end hears is answered as beyond its window, however late it comes
abbrev pub NothingIsBeyond : Type 0
NothingIsBeyond =
    (w : ℕ) (world : List Event)
    → IsLegalWorld w world
    → IsHonest world
    → All (λ x. x.entry.answer ≢ EndAnswer.Heard Heard.Beyond) world

-- no message that an end hears is answered as past the end of its direction
abbrev pub NothingIsPastTheEnd : Type 0
NothingIsPastTheEnd =
    (w : ℕ) (world : List Event) (n : ℕ)
    → IsLegalWorld w world
    → IsHonest world
    → All (λ x. x.entry.answer ≢ EndAnswer.Heard (Heard.PastEnd n)) world

-- an end has answered that the last item is released exactly where the other end put in an item as the
-- last, and all that was put in there is released
abbrev pub FinishedIsWhole : Type 0
FinishedIsWhole =
    (w : ℕ) (world : List Event) (end : Side)
    → IsLegalWorld w world
    → IsHonest world
    → (finished_count (history_of end world) ≡ 1)
    ↔ ((has_ended (history_of (other end) world) ≡ true)
    × (released_items (history_of end world) ≡ put_items (history_of (other end) world)))

-- after one exchange without a loss, at the end of which neither end is closed, each end has
-- released all that the other put in
abbrev pub ExchangeReleasesAll : Type 0
ExchangeReleasesAll =
    (w : ℕ) (world xs : List Event) (side : Side)
    → IsLegalWorld w (world ++ xs)
    → IsHonest world
    → IsExchange xs
    → ((end : Side) → is_closed (history_of end (world ++ xs)) ≡ false)
    → released_items (history_of (other side) (world ++ xs))
    ≡ put_items (history_of side (world ++ xs))

-- an exchange pulls each end at most 2w + 1 times
abbrev pub ExchangeIsShort : Type 0
ExchangeIsShort =
    (w : ℕ) (world xs : List Event) (side : Side)
    → IsLegalWorld w (world ++ xs)
    → IsExchange xs
    → pull_count side xs ≤ 2 * w + 1

-- after each legal world in which neither end is closed there is an exchange without a loss, at the
-- end of which neither end is closed
abbrev pub ExchangeIsPossible : Type 0
ExchangeIsPossible =
    (w : ℕ) (world : List Event)
    → IsLegalWorld w world
    → ((end : Side) → is_closed (history_of end world) ≡ false)
    → (xs : List Event)
    × IsExchange xs
    × IsLegalWorld w (world ++ xs)
    × ((end : Side) → is_closed (history_of end (world ++ xs)) ≡ false)
