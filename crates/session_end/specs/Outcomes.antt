-- What a run comes to, by how its workers ended.
use Rattle.std.specs.Prelude.{ℕ, Bool, true, false, not, ◌&&◌, ◌||◌, Option, Some, None, is_some, if◌then◌else◌}
use Rattle.session_workers.specs.declared.read_state.ReadEnd.{ReadEnd}
use Rattle.session_workers.specs.declared.worker_end.WorkerEnd.{WorkerEnd}
use Rattle.session_delivery.specs.declared.deliver_end.DeliverEnd.{DeliverEnd}
use Rattle.session_end.specs.declared.ends.Ends.{Ends}
use Rattle.session_end.specs.declared.outcome.Outcome.{Outcome}

-- whether the link writer wanted memory
abbrev pub is_writer_starved : Option WorkerEnd → Bool
is_writer_starved (Some WorkerEnd.NoMemory) = true
is_writer_starved end = false

-- whether the link reader did
abbrev pub is_reader_starved : Option ReadEnd → Bool
is_reader_starved (Some ReadEnd.NoMemory) = true
is_reader_starved end = false

-- whether the deliverer did; one that was started and did nothing counts as that
abbrev pub is_deliverer_starved : Bool → Option DeliverEnd → Bool
is_deliverer_starved started (Some DeliverEnd.NoMemory) = true
is_deliverer_starved started None = started
is_deliverer_starved started end = false

-- whether a worker ended for want of memory
abbrev pub is_starved : Ends → Bool
is_starved e =
    is_writer_starved e.writer
    || (is_reader_starved e.reader
    || (e.refusals.no_memory || is_deliverer_starved e.started e.delivered))

-- whether all workers were started, but for those of feeders
abbrev pub all_started : Ends → Bool
all_started e = (is_some e.writer && e.resent) && (is_some e.reader && e.started)

-- the outcome where no worker was refused for another cause than these
abbrev pub outcome_left : Ends → Outcome
outcome_left e =
    if e.refusals.failed then Outcome.FeedFault
    else if e.refusals.no_thread || not (all_started e) then Outcome.NoThread
    else if e.agreed then Outcome.Ended else Outcome.Unagreed

-- the same with a fault of the session, which comes before
abbrev pub outcome_served : Option DeliverEnd → Outcome → Outcome
outcome_served (Some (DeliverEnd.Fault fault)) later = Outcome.Fault fault
outcome_served end later = later

-- with a number given up
abbrev pub outcome_given : Option ℕ → Outcome → Outcome
outcome_given (Some seq) later = Outcome.GaveUp seq
outcome_given None later = later

-- with a refusal of the link reader
abbrev pub outcome_read : Option ReadEnd → Outcome → Outcome
outcome_read (Some (ReadEnd.Refused reply)) later = Outcome.Refused reply
outcome_read (Some ReadEnd.LinkLost) later = Outcome.LinkLost
outcome_read end later = later

-- the outcome of a run whose workers ended so: the first refusal in the order of the outcomes
abbrev pub outcome_of : Ends → Outcome
outcome_of e =
    if is_starved e then Outcome.NoMemory
    else outcome_read e.reader
    (outcome_given e.gave_up (outcome_served e.delivered (outcome_left e)))
