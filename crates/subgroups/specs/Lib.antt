pub mod Questions
pub mod Calls
pub mod Parts
pub mod Ends
pub mod Signing
pub mod Judging
