pub mod Inputs
pub mod Laws
pub mod Meanings
pub mod Script
pub mod Statuses
pub mod Words
