pub mod File
pub mod Answers
pub mod PrintedFile
pub mod Cases
