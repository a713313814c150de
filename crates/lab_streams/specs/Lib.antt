pub mod Outcomes
pub mod Steps
pub mod Run
pub mod Ends
pub mod Laws
