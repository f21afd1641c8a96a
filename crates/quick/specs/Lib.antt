pub mod Table
pub mod Questions
pub mod Calls
pub mod Closing
