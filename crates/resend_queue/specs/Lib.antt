pub mod Inside
pub mod Queue
pub mod RoundTrips
