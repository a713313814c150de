pub mod EndLemmas
pub mod ItemLemmas
pub mod ReleaseLemmas
