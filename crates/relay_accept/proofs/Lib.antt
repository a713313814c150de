pub mod AskedLemmas
pub mod Crossing
pub mod EndLemmas
pub mod GatherLemmas
pub mod HoldLemmas
pub mod SeatLemmas
pub mod ShareLemmas
pub mod StepLemmas
