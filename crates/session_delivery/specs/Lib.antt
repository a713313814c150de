pub mod Answers
pub mod DeliverLaws
pub mod DeliverSteps
pub mod Deliveries
pub mod Delivering
pub mod Starts
