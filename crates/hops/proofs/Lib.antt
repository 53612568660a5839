pub mod Rule
pub mod Searching
pub mod Answers
pub mod Unique
pub mod Exact
