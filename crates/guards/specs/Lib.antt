pub mod Checks
pub mod OnNetwork
pub mod Entrance
