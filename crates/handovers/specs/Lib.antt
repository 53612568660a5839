pub mod Handovers
