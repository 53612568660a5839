pub mod Answering
pub mod Cases
pub mod Bodies
