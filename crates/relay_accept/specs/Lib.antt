pub mod Accepting
pub mod Conns
pub mod Ends
pub mod Gathers
pub mod Seats
