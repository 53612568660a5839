pub mod Sweeping
pub mod Parting
pub mod Working
pub mod Answered
pub mod Whole
pub mod Worked
