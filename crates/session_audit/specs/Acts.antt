-- What can be seen of an end from outside: what it gives out and hears, its connections, its end.
use Rattle.std.specs.Prelude.{Option, Some, None, List}
use Rattle.std.specs.List.{All, filter_map}
use Rattle.channel_core.specs.declared.call.EndAnswer.{EndAnswer}
use Rattle.channel_core.specs.declared.call.EndCall.{EndCall}
use Rattle.channel_core.specs.declared.message.Outgoing.{Outgoing}
use Rattle.channel_core.specs.declared.answer.Pull.TheVariants as Pull
use Rattle.channel_core.specs.declared.answer.Tick.TheVariants as Tick
use Rattle.session_audit.specs.declared.act.Act.{Act}
use Rattle.channel_core.specs.Call.{Entry}
use Rattle.channel_core.specs.Legal.{IsNoMemory}

-- what can be seen of this call and answer: nothing of a put, an idle pull, a look, or a tick at
-- which the end doesn't give up
abbrev pub act_of : EndAnswer → EndCall → Option Act
act_of (EndAnswer.Pull (Pull.Emit out)) call = Some (Act.Emits out)
act_of (EndAnswer.Tick (Tick.GaveUp n)) call = Some Act.Closes
act_of answer (EndCall.Heard now incoming) = Some (Act.Hears incoming)
act_of answer (EndCall.Opened now) = Some Act.Opens
act_of answer EndCall.Lost = Some Act.Loses
act_of answer EndCall.Close = Some Act.Closes
act_of answer call = None

-- what can be seen of these entries, in order
unfoldable pub acts_of : List Entry → List Act
acts_of h = filter_map (λ e. act_of e.answer e.call) h

-- the message that is given out
abbrev pub out_of : Act → Option Outgoing
out_of (Act.Emits out) = Some out
out_of act = None

-- what is given out, in order
unfoldable pub outs_of : List Act → List Outgoing
outs_of acts = filter_map out_of acts

-- no call wanted for memory
abbrev pub IsRemembered : List Entry → Type 0
IsRemembered h = All (λ e. ¬ IsNoMemory e.call e.answer) h
