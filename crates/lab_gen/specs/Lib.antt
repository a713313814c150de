pub mod Counts
pub mod Ends
pub mod Generator
pub mod Laws
