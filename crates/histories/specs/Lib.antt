pub mod History
pub mod Examples
