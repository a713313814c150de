-- The workers may go to other threads, and so may what they end with.
use denote.RattleType.{RattleType}
use denote.Ref.{NamedLft}
use denote.Param.Send.{IsSend, IsSync, sendable}
use Rattle.std.proofs.Crossing.{crosses}
use Rattle.session_run.proofs.Crossing.{Seat_field-send, ShelfLock-sync, ShelfSeat_field-send, TurnLock-sync}
use Rattle.session_workers.specs.contracts.link_reader.LinkReader as LinkReader
use Rattle.session_workers.specs.contracts.link_writer.LinkWriter as LinkWriter
use Rattle.session_workers.specs.contracts.reader_job.ReaderDone as ReaderDone
use Rattle.session_workers.specs.contracts.reader_job.ReaderJob as ReaderJob
use Rattle.session_workers.specs.contracts.resend_job.ResendDone as ResendDone
use Rattle.session_workers.specs.contracts.resend_job.ResendJob as ResendJob
use Rattle.session_workers.specs.contracts.writer_job.WriterDone as WriterDone
use Rattle.session_workers.specs.contracts.writer_job.WriterJob as WriterJob

-- a link writer may cross where its output may
pub LinkWriter-send : (U : RattleType) → IsSend U → IsSend (LinkWriter.the_row U)
LinkWriter-send U u =
    search (sendable, crosses, Seat_field-send, ShelfSeat_field-send) depth 40

pub WriterDone-send : (U : RattleType) → IsSend U → IsSend (WriterDone.the_row U)
WriterDone-send U u =
    search (sendable, crosses, Seat_field-send, ShelfSeat_field-send) depth 40

pub WriterJob-send : (κ : NamedLft) (R C G U : RattleType)
    → IsSync R → IsSync C → IsSync G → IsSend U
    → IsSend (WriterJob.the_row κ R C G U)
WriterJob-send κ R C G U r c g u =
    search
    (sendable, crosses, TurnLock-sync, ShelfLock-sync, Seat_field-send, ShelfSeat_field-send)
    depth 60

pub ResendDone-send : IsSend ResendDone.the_row
ResendDone-send = search (sendable, crosses, Seat_field-send) depth 40

pub ResendJob-send : (κ : NamedLft) (R C G : RattleType)
    → IsSync R → IsSync C → IsSync G
    → IsSend (ResendJob.the_row κ R C G)
ResendJob-send κ R C G r c g =
    search (sendable, crosses, TurnLock-sync, Seat_field-send) depth 60

-- a link reader may cross where its dialer and its input may
pub LinkReader-send : (D N : RattleType) → IsSend D → IsSend N → IsSend (LinkReader.the_row D N)
LinkReader-send D N d n =
    search (sendable, crosses, Seat_field-send, ShelfSeat_field-send) depth 60 fits 20000

pub ReaderDone-send : (D N : RattleType) → IsSend D → IsSend N → IsSend (ReaderDone.the_row D N)
ReaderDone-send D N d n =
    search (sendable, crosses, Seat_field-send, ShelfSeat_field-send) depth 60 fits 20000

pub ReaderJob-send : (κ : NamedLft) (R C G D N : RattleType)
    → IsSync R → IsSync C → IsSync G → IsSend D → IsSend N
    → IsSend (ReaderJob.the_row κ R C G D N)
ReaderJob-send κ R C G D N r c g d n =
    search
    (sendable, crosses, TurnLock-sync, ShelfLock-sync, Seat_field-send, ShelfSeat_field-send)
    depth 80 fits 20000
