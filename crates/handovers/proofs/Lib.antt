pub mod Tested
pub mod Recipe
pub mod Stays
pub mod Lent
pub mod Settles
pub mod Worked
