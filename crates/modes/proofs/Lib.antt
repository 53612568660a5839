pub mod Picking
pub mod Comparisons
pub mod SemiModules
pub mod Gains
pub mod Worked
pub mod EntrySums
pub mod Unique
