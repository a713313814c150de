-- The workers of feeders may go to other threads, and so may what they end with.
use denote.RattleType.{RattleType}
use denote.Ref.{NamedLft}
use denote.Param.Send.{IsSend, IsSync, sendable}
use Rattle.std.proofs.Crossing.{crosses, frees, send}
use Rattle.std_collections.proofs.ListMemory.Crosses as lists
use Rattle.std_collections.specs.contracts.linked_list.LinkedList as LinkedList
use Rattle.std_collections.specs.contracts.linked_list.nodes.Nodes as Nodes
use Rattle.std_heap.specs.contracts.Global as Heap
use Rattle.std_heap.specs.contracts.GlobalAllocator.TheImpl.{ghosts as heap}
use Rattle.session_run.proofs.Crossing.{Seat_field-send, ShelfLock-sync, ShelfSeat_field-send, TurnLock-sync}
use Rattle.session_crews.specs.contracts.feed_done.FeedDone as FeedDone
use Rattle.session_crews.specs.contracts.feed_end.Refusals as Refusals
use Rattle.session_crews.specs.contracts.feed_start.FeedStart as FeedStart
use Rattle.session_crews.specs.contracts.feeders.Feeders as Feeders
use Rattle.session_crews.specs.contracts.feeders.Place as Place
use Rattle.session_crews.specs.contracts.run_context.RunContext as RunContext

-- a list of places may cross
pub Nodes-send : (T : RattleType) → IsSend T → IsSend (Nodes.the_row T Heap.the_row heap)
Nodes-send T t = lists.Nodes-send T Heap.the_row heap t send frees

pub LinkedList-send : (T : RattleType) → IsSend T → IsSend (LinkedList.the_row T Heap.the_row heap)
LinkedList-send T t = search (sendable, send, Nodes-send) depth 40

pub Feeders-send : (F : RattleType) → IsSend F → IsSend (Feeders.the_row F)
Feeders-send F f = search (sendable, LinkedList-send) depth 40

pub Place-send : (F : RattleType) → IsSend F → IsSend (Place.the_row F)
Place-send F f = search (sendable, LinkedList-send) depth 40

pub Feeders_field-send : (F : RattleType) → IsSend F → IsSend (Feeders.the_field F).row
Feeders_field-send F f = search (sendable, LinkedList-send) depth 40

pub Place_field-send : (F : RattleType) → IsSend F → IsSend (Place.the_field F).row
Place_field-send F f = search (sendable, LinkedList-send) depth 40

pub Refusals-send : IsSend Refusals.the_row
Refusals-send = search sendable depth 20

-- what a feeder's worker ends with may cross
pub FeedDone-send : (W F : RattleType) → IsSend W → IsSend F → IsSend (FeedDone.the_row W F)
FeedDone-send W F w f =
    search (
      sendable,
      Feeders-send,
      Feeders_field-send,
      Refusals-send,
      Seat_field-send,
      ShelfSeat_field-send,
    )
    depth 40

-- what all workers share may cross
pub RunContext-send : (κ μ : NamedLft) (R C G : RattleType)
    → IsSync R → IsSync C → IsSync G
    → IsSend (RunContext.the_row κ μ R C G)
RunContext-send κ μ R C G r c g =
    search (sendable, crosses, TurnLock-sync, ShelfLock-sync) depth 60

pub RunContext_field-send : (κ μ : NamedLft) (R C G : RattleType)
    → IsSync R → IsSync C → IsSync G
    → IsSend (RunContext.the_field κ μ R C G).row
RunContext_field-send κ μ R C G r c g =
    search (sendable, crosses, TurnLock-sync, ShelfLock-sync) depth 60

-- so may a worker that is to be started
pub FeedStart-send : (κ μ : NamedLft) (R C G W F : RattleType)
    → IsSync R → IsSync C → IsSync G → IsSend W → IsSend F
    → IsSend (FeedStart.the_row κ μ R C G W F)
FeedStart-send κ μ R C G W F r c g w f =
    search (
      sendable,
      crosses,
      RunContext-send,
      RunContext_field-send,
      Place-send,
      Place_field-send,
      Seat_field-send,
      ShelfSeat_field-send,
    )
    depth 60
