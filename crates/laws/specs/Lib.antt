pub mod Report
pub mod Flags
pub mod Verdicts
