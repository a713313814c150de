pub mod ArrayLemmas
pub mod ListLemmas
pub mod ParsedLemmas
