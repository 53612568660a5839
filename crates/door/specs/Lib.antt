pub mod Languages
pub mod Replies
pub mod Reports
pub mod Problems
