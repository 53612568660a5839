pub mod Buffers
pub mod Steps
pub mod Parts
