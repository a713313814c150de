pub mod HeldLemmas
pub mod MessageLemmas
pub mod QueueLemmas
pub mod SoundLemmas
