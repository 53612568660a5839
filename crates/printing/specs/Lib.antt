pub mod Work
pub mod Printed
