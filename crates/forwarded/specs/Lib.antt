pub mod Table
pub mod Figures
pub mod Printed
