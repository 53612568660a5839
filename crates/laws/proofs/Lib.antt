pub mod Overlays
pub mod Reporting
pub mod Exact
pub mod Worked
