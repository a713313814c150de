pub mod LatestLemmas
pub mod EndsLemmas
pub mod CountLemmas
pub mod RunLemmas
pub mod ScriptLemmas
pub mod LawLemmas
