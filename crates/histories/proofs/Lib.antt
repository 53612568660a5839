pub mod Reached
pub mod Over
pub mod Histories
pub mod Exact
pub mod Standing
pub mod Worked
