pub mod Singles
pub mod Cases
pub mod Entering
pub mod Unique
