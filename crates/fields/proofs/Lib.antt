pub mod Passing
pub mod Advancing
pub mod Fuel
pub mod Cases
pub mod Walk
