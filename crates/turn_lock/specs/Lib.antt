pub mod Histories
pub mod Stages
pub mod Views
pub mod Rule
pub mod Steps
pub mod Seats
pub mod Receipts
pub mod Runs
