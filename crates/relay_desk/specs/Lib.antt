pub mod Admissions
pub mod Desks
pub mod Hearing
pub mod InletTurns
pub mod Kept
pub mod Openings
