pub mod Lists
mod Behind
mod Numbering
pub mod Nodes
mod Ends
pub mod Remaining
mod Adding
mod Growth
mod Listed
pub mod Unique
