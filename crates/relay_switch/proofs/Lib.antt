pub mod AddedLemmas
pub mod HistoryLemmas
pub mod KindLemmas
pub mod LineLemmas
pub mod OutletLemmas
pub mod QueueLemmas
pub mod StepLemmas
pub mod SwitchLemmas
