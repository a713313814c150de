pub mod Limits
pub mod Sides
