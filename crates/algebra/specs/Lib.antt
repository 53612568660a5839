pub mod Order
pub mod Algebra
pub mod Path
pub mod Network
pub mod Best
pub mod Step
pub mod Demand
pub mod Modes
