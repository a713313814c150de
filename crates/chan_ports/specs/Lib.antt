pub mod Fresh
pub mod Ports
pub mod Waits
