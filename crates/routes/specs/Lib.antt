pub mod Stops
pub mod Calls
pub mod Ready
