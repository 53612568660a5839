pub mod Entries
pub mod Hot
pub mod Gains
