pub mod Inside
pub mod Window
