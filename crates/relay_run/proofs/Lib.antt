pub mod ReadingLemmas
pub mod SendingLemmas
pub mod StopLemmas
