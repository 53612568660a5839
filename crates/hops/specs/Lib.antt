pub mod NextHop
pub mod Calls
