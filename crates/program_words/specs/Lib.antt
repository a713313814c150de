pub mod AgentLine
pub mod Commands
pub mod Faults
pub mod Options
pub mod PluginLine
pub mod RelayLine
pub mod SessionLists
pub mod Statuses
