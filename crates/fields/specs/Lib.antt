pub mod Nested
pub mod Fuel
pub mod Header
pub mod Parts
pub mod Cases
