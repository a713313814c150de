pub mod Adds
pub mod Held
pub mod Kinds
pub mod Shelf
