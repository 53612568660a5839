pub mod ReadBack
pub mod Forwards
pub mod Exact
pub mod Figures
pub mod Worked
pub mod Swept
