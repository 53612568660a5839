pub mod Lines
pub mod Parts
pub mod PrintedCase
