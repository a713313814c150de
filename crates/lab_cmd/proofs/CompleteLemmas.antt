-- Which status is due.
use Rattle.std.proofs.Common.{◌≡◌, ℕ, ◌⊎◌, inl, inr, Some, List, [], refl, sym}
use Rattle.chan_io.specs.Faults.{Rises}
use Rattle.chan_io.specs.Sources.{Input}
use Rattle.lab_cmd.specs.declared.status.Status.{Status}
use Rattle.lab_cmd.specs.declared.words.Mode.{Mode}
use Rattle.lab_cmd.specs.Inputs.{max_input}
use Rattle.lab_cmd.specs.Meanings.{IsDue, IsDueIn, IsDueInput, Means, MeansInput, MeansMade, Outside, made_line}
use Rattle.lab_cmd.specs.Words.{IsMode, IsWords}
use Rattle.lab_cmd.proofs.DueLemmas.{IsDueIn-worded, IsDueInput-unique}
use Rattle.lab_cmd.proofs.Reading.{left_from_read, longer_from_told}
use Rattle.lab_cmd.proofs.WordLemmas.{IsMode-words}

-- a status that means what it says is the one that is due, where no call of the outside fails
due_from_input : (mode : Mode) (status due : Status)
    (unwritten : Type 0)
    (old new : Outside) (before : Input)
    → IsMode mode
    → MeansInput mode status unwritten old new
    → old.input ≡ Some before
    → IsDueInput mode before.left due
    → ¬ Rises old.reads_failed new.reads_failed
    → ¬ Rises old.writes_failed new.writes_failed
    → (status ≡ due) ⊎ (status ≡ Status.NoMemory)
due_from_input mode Status.Ok due unwritten old new before fits m told is_due reads writes =
    let left = left_from_read m.input before old.input new.input told m.reads.read in
    inl (IsDueInput-unique mode before.left Status.Ok due fits
    (rw left m.reads.short, (m.text, rw left m.outputs)) is_due)
due_from_input mode (Status.BadCapture fault)
    due unwritten old new before fits m told is_due reads writes =
    let all = m.0 in
    let left = left_from_read all.input before old.input new.input told all.reads.read in
    inl (IsDueInput-unique mode before.left (Status.BadCapture fault) due fits
    (rw left all.reads.short, (all.text, rw left all.outputs)) is_due)
due_from_input mode (Status.BadJournal fault)
    due unwritten old new before fits m told is_due reads writes =
    let b = m.1 in
    let left = left_from_read b.0 before old.input new.input told b.1.read in
    inl (IsDueInput-unique mode before.left (Status.BadJournal fault) due fits
    (rw left b.1.short, ([], rw left b.2)) is_due)
due_from_input mode Status.NoMemory due unwritten old new before fits m told is_due reads
    writes =
    inr refl
due_from_input mode (Status.Usage k)
    due unwritten old new before fits m told is_due reads writes =
    absurd m
due_from_input mode (Status.Script n)
    due unwritten old new before fits m told is_due reads writes =
    let b = m.1 in
    let left = left_from_read b.0 before old.input new.input told b.1.read in
    inl (IsDueInput-unique mode before.left (Status.Script n) due fits
    (rw left b.1.short, rw left b.2) is_due)
due_from_input mode Status.ReadFault due unwritten old new before fits m told is_due reads
    writes =
    absurd (reads m.1)
due_from_input mode Status.WriteFault due unwritten old new before fits m told is_due reads
    writes =
    absurd (writes m.1)
due_from_input mode
    Status.TooLong due unwritten old new before fits m told is_due reads writes =
    inl (IsDueInput-unique mode before.left Status.TooLong due fits
    (longer_from_told max_input old.input before told m.1) is_due)

-- so it is of a script that made itself
due_from_made : (line : List ℕ) (status due : Status) (old new : Outside)
    → MeansMade line status old new
    → due ≡ Status.Ok
    → ¬ Rises old.writes_failed new.writes_failed
    → (status ≡ due) ⊎ (status ≡ Status.NoMemory)
due_from_made line Status.Ok due old new m is writes = inl (sym is)
due_from_made line Status.NoMemory due old new m is writes = inr refl
due_from_made line Status.WriteFault due old new m is writes = absurd (writes m.2)
due_from_made line _ due old new m is writes = absurd m

-- and in each mode
due_in_mode : (mode : Mode) (status due : Status) (unwritten : Type 0) (old new : Outside)
    (before : Input)
    → IsMode mode
    → Means mode status unwritten old new
    → old.input ≡ Some before
    → IsDueIn mode before.left due
    → ¬ Rises old.reads_failed new.reads_failed
    → ¬ Rises old.writes_failed new.writes_failed
    → (status ≡ due) ⊎ (status ≡ Status.NoMemory)
due_in_mode (Mode.Windowed task window)
    status due unwritten old new before fits m told is_due reads writes =
    due_from_input (Mode.Windowed task window)
    status due unwritten old new before fits m told is_due reads writes
due_in_mode Mode.Show status due unwritten old new before fits m told is_due reads writes =
    due_from_input Mode.Show status due unwritten old new before fits m told is_due reads writes
due_in_mode (Mode.Gen rounds start) status due unwritten old new before fits m told is_due reads writes =
    due_from_made (made_line rounds start) status due old new m is_due writes

-- words that ask for this mode call for no faulty command line
pub due_from_means : (words : List (List ℕ)) (mode : Mode) (status due : Status)
    (unwritten : Type 0)
    (old new : Outside) (before : Input)
    → IsWords mode words
    → Means mode status unwritten old new
    → old.input ≡ Some before
    → IsDue words before.left due
    → ¬ Rises old.reads_failed new.reads_failed
    → ¬ Rises old.writes_failed new.writes_failed
    → (status ≡ due) ⊎ (status ≡ Status.NoMemory)
due_from_means words mode status due unwritten old new before worded m told is_due reads writes =
    due_in_mode mode status due unwritten old new before (IsMode-words words mode worded) m told
    (IsDueIn-worded words mode before.left due worded is_due) reads writes
