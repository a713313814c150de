pub mod AgentLemmas
pub mod BodyLemmas
pub mod ClientLemmas
