pub mod Tables
pub mod Values
pub mod Storing
pub mod Sizes
