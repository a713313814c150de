-- The exit statuses of the programs, and the line that tells of each, without its line feed.
use Rattle.std.specs.Prelude.{ℕ, List, ◌++◌, codes, decimal}
use Rattle.handshake.specs.declared.step.Why.{Why}
use Rattle.program_words.specs.declared.agent_status.AgentStatus.{AgentStatus}
use Rattle.program_words.specs.declared.plugin_status.PluginStatus.{PluginStatus}
use Rattle.program_words.specs.declared.relay_status.RelayStatus.{RelayStatus}

-- the number of why the handshake refused an item
abbrev pub why_number : Why → ℕ
why_number (Why.Order ptype) = 1
why_number (Why.Body fault) = 2
why_number Why.NoSession = 3
why_number (Why.Failed status) = 4

-- `PROGRAM: status N NAME`, where NAME has its arguments behind it
abbrev pub status_line : List ℕ → ℕ → List ℕ → List ℕ
status_line program number name =
    program ++ codes ": status " ++ decimal number ++ codes " " ++ name

-- of `plugin`
abbrev pub plugin_number : PluginStatus → ℕ
plugin_number PluginStatus.Ok = 0
plugin_number PluginStatus.NoMemory = 1
plugin_number PluginStatus.Usage = 2
plugin_number PluginStatus.Refused = 3
plugin_number PluginStatus.ReadFault = 4
plugin_number PluginStatus.WriteFault = 5
plugin_number PluginStatus.LinkLost = 7
plugin_number (PluginStatus.GaveUp seq) = 8
plugin_number (PluginStatus.Handshake why) = 9
plugin_number PluginStatus.NoThread = 10
plugin_number PluginStatus.PortFault = 12
plugin_number PluginStatus.EntropyFault = 15
plugin_number PluginStatus.NoAgreement = 17
plugin_number (PluginStatus.Frames at) = 19

abbrev pub plugin_name : PluginStatus → List ℕ
plugin_name PluginStatus.Ok = codes "Ok"
plugin_name PluginStatus.NoMemory = codes "NoMemory"
plugin_name PluginStatus.Usage = codes "Usage"
plugin_name PluginStatus.Refused = codes "Refused"
plugin_name PluginStatus.ReadFault = codes "ReadFault"
plugin_name PluginStatus.WriteFault = codes "WriteFault"
plugin_name PluginStatus.LinkLost = codes "LinkLost"
plugin_name (PluginStatus.GaveUp seq) = codes "GaveUp " ++ decimal seq
plugin_name (PluginStatus.Handshake why) = codes "Handshake " ++ decimal (why_number why)
plugin_name PluginStatus.NoThread = codes "NoThread"
plugin_name PluginStatus.PortFault = codes "PortFault"
plugin_name PluginStatus.EntropyFault = codes "EntropyFault"
plugin_name PluginStatus.NoAgreement = codes "NoAgreement"
plugin_name (PluginStatus.Frames at) = codes "Frames " ++ decimal at

abbrev pub plugin_line : PluginStatus → List ℕ
plugin_line status = status_line (codes "plugin") (plugin_number status) (plugin_name status)

-- of `agent`
abbrev pub agent_number : AgentStatus → ℕ
agent_number AgentStatus.Ok = 0
agent_number AgentStatus.NoMemory = 1
agent_number AgentStatus.Usage = 2
agent_number AgentStatus.Refused = 3
agent_number AgentStatus.LinkLost = 7
agent_number (AgentStatus.GaveUp seq) = 8
agent_number (AgentStatus.Handshake why) = 9
agent_number AgentStatus.NoThread = 10
agent_number AgentStatus.NoChild = 11
agent_number AgentStatus.PortFault = 12
agent_number AgentStatus.ChildFault = 13
agent_number AgentStatus.EntropyFault = 15
agent_number AgentStatus.NoAgreement = 17
agent_number (AgentStatus.Frames at) = 19

abbrev pub agent_name : AgentStatus → List ℕ
agent_name AgentStatus.Ok = codes "Ok"
agent_name AgentStatus.NoMemory = codes "NoMemory"
agent_name AgentStatus.Usage = codes "Usage"
agent_name AgentStatus.Refused = codes "Refused"
agent_name AgentStatus.LinkLost = codes "LinkLost"
agent_name (AgentStatus.GaveUp seq) = codes "GaveUp " ++ decimal seq
agent_name (AgentStatus.Handshake why) = codes "Handshake " ++ decimal (why_number why)
agent_name AgentStatus.NoThread = codes "NoThread"
agent_name AgentStatus.NoChild = codes "NoChild"
agent_name AgentStatus.PortFault = codes "PortFault"
agent_name AgentStatus.ChildFault = codes "ChildFault"
agent_name AgentStatus.EntropyFault = codes "EntropyFault"
agent_name AgentStatus.NoAgreement = codes "NoAgreement"
agent_name (AgentStatus.Frames at) = codes "Frames " ++ decimal at

abbrev pub agent_line : AgentStatus → List ℕ
agent_line status = status_line (codes "agent") (agent_number status) (agent_name status)

-- of `relay`
abbrev pub relay_number : RelayStatus → ℕ
relay_number RelayStatus.Ok = 0
relay_number RelayStatus.NoMemory = 1
relay_number RelayStatus.Usage = 2
relay_number RelayStatus.WriteFault = 5
relay_number RelayStatus.NoThread = 10
relay_number RelayStatus.PortFault = 12
relay_number RelayStatus.StoreFault = 14
relay_number RelayStatus.EntropyFault = 15

abbrev pub relay_name : RelayStatus → List ℕ
relay_name RelayStatus.Ok = codes "Ok"
relay_name RelayStatus.NoMemory = codes "NoMemory"
relay_name RelayStatus.Usage = codes "Usage"
relay_name RelayStatus.WriteFault = codes "WriteFault"
relay_name RelayStatus.NoThread = codes "NoThread"
relay_name RelayStatus.PortFault = codes "PortFault"
relay_name RelayStatus.StoreFault = codes "StoreFault"
relay_name RelayStatus.EntropyFault = codes "EntropyFault"

abbrev pub relay_line : RelayStatus → List ℕ
relay_line status = status_line (codes "relay") (relay_number status) (relay_name status)
