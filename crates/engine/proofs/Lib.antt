mod Verdicts
mod Settling
pub mod GivenList
pub mod Relations
