pub mod Laws
pub mod Recording
pub mod Records
