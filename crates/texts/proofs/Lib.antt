pub mod Composing
pub mod Growing
pub mod Worked
