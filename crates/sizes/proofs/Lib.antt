pub mod Passing
pub mod Zeroed
