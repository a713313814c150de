pub mod Feeding
pub mod Ids
pub mod Marks
pub mod PutLaws
pub mod Puts
pub mod Sessions
