pub mod Contents
pub mod Parts
