pub mod AddsLemmas
pub mod Crossing
pub mod HeldLemmas
pub mod KindLemmas
pub mod ShelfCallLemmas
pub mod ShelfLemmas
