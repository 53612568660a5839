pub mod Calls
pub mod Ready
