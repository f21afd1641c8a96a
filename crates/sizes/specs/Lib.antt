pub mod Questions
pub mod Zeroing
