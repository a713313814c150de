-- The number and the text of a status, and the status of each fault.
use Rattle.std.specs.Prelude.{ℕ, List, ◌++◌, codes, decimal, Result, Ok, Err}
use Rattle.agent_message.specs.CaptureCauses.{cause_number}
use Rattle.lab_audit.specs.declared.stop.AuditStop.{AuditStop}
use Rattle.lab_audit.specs.Lines.{why_number}
use Rattle.lab_cmd.specs.declared.input.InputFault.{InputFault}
use Rattle.lab_cmd.specs.declared.script.ScriptFault.{ScriptFault}
use Rattle.lab_cmd.specs.declared.status.Status.{Status}
use Rattle.lab_run.specs.declared.stop.Stop.{Stop}
use Rattle.lab_show.specs.declared.stop.ShowStop.{ShowStop}

-- the exit status of the program
abbrev pub exit_status_of : Status → ℕ
exit_status_of Status.Ok = 0
exit_status_of Status.NoMemory = 1
exit_status_of (Status.Usage k) = 2
exit_status_of (Status.Script line) = 3
exit_status_of Status.ReadFault = 4
exit_status_of Status.WriteFault = 5
exit_status_of Status.TooLong = 6
exit_status_of (Status.BadCapture fault) = 16
exit_status_of (Status.BadJournal fault) = 18

-- the name of a status, and each of its arguments behind one space
abbrev pub status_name : Status → List ℕ
status_name Status.Ok = codes "Ok"
status_name Status.NoMemory = codes "NoMemory"
status_name (Status.Usage k) = codes "Usage " ++ decimal k
status_name (Status.Script line) = codes "Script " ++ decimal line
status_name Status.ReadFault = codes "ReadFault"
status_name Status.WriteFault = codes "WriteFault"
status_name Status.TooLong = codes "TooLong"
status_name (Status.BadCapture fault) =
    codes "BadCapture " ++ decimal fault.at ++ codes " " ++ decimal (cause_number fault.cause)
status_name (Status.BadJournal fault) =
    codes "BadJournal " ++ decimal fault.at ++ codes " " ++ decimal (why_number fault.why)

-- the line that tells of a status, without its line feed
abbrev pub status_text : Status → List ℕ
status_text status =
    codes "lab: status " ++ decimal (exit_status_of status) ++ codes " " ++ status_name status

-- the status of an input that could not be had
abbrev pub status_of_input : InputFault → Status
status_of_input InputFault.Read = Status.ReadFault
status_of_input InputFault.TooLong = Status.TooLong
status_of_input InputFault.NoMemory = Status.NoMemory

-- the status of an input that is no script
abbrev pub status_of_script : ScriptFault → Status
status_of_script (ScriptFault.Line line) = Status.Script line
status_of_script ScriptFault.NoMemory = Status.NoMemory

-- the status of a run that stopped
abbrev pub status_of_stop : Stop → Status
status_of_stop Stop.Write = Status.WriteFault
status_of_stop Stop.NoMemory = Status.NoMemory

-- the status of a listing that stopped
abbrev pub status_of_show : ShowStop → Status
status_of_show (ShowStop.Fault fault) = Status.BadCapture fault
status_of_show ShowStop.Write = Status.WriteFault
status_of_show ShowStop.NoMemory = Status.NoMemory

-- the status of a journal that got no line
abbrev pub status_of_audit : AuditStop → Status
status_of_audit (AuditStop.Fault fault) = Status.BadJournal fault
status_of_audit AuditStop.Write = Status.WriteFault
status_of_audit AuditStop.NoMemory = Status.NoMemory

-- the status of a mode that ended so
abbrev pub status_of : {T : Type 0} → Result T Status → Status
status_of (Ok done) = Status.Ok
status_of (Err status) = status
