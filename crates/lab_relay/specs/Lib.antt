pub mod Held
pub mod Inboxes
pub mod Laws
pub mod Run
pub mod Scene
pub mod Steps
