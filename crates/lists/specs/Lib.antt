pub mod Questions
pub mod NormalList
pub mod Calls
pub mod Reducing
