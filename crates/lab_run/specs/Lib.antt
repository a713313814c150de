pub mod Damage
pub mod Ends
pub mod Laws
pub mod Outcomes
pub mod Printing
pub mod Run
pub mod Steps
