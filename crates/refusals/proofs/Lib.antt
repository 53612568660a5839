pub mod OneToOne
pub mod First
pub mod Exactly
pub mod Tests
pub mod Cases
pub mod Pinned
