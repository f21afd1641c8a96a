pub mod Entries
pub mod Questions
pub mod Calls
pub mod Forming
pub mod Spelling
