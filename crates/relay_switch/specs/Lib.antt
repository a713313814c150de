pub mod Kinds
pub mod Lines
pub mod Moves
pub mod OutletTurns
pub mod Outlets
pub mod Sends
pub mod Steps
pub mod Switching
