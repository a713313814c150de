pub mod Changes
pub mod Forwarding
pub mod Isolation
pub mod Kept
pub mod Messages
pub mod Rooms
