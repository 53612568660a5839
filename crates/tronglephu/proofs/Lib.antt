pub mod Answers
pub mod Exact
