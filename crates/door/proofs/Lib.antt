pub mod Stored
pub mod Decoding
pub mod Back
