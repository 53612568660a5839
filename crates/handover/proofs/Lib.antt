pub mod Order
pub mod Answers
pub mod Unique
pub mod Rows
