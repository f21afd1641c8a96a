pub mod Tree
pub mod Numbering
pub mod Building
pub mod Ends
pub mod Growing
pub mod Bounds
