pub mod Outcome
pub mod Release
