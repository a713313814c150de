pub mod NumberedLemmas
pub mod SlotLemmas
