pub mod AdmitLemmas
pub mod DeskLemmas
pub mod DrawLemmas
pub mod KindLemmas
pub mod TurnLemmas
