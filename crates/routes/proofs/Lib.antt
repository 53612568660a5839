pub mod Bridge
pub mod Order
pub mod Cases
pub mod Lists
pub mod Answers
pub mod Unique
