pub mod Line
pub mod Storing
pub mod Calls
