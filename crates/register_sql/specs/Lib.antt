pub mod Faults
pub mod RawRows
pub mod Stores
pub mod Tables
pub mod Texts
