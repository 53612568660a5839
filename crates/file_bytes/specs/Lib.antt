pub mod Bytes
pub mod Offsets
