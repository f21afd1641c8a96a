pub mod Decimals
pub mod LineLength
mod Fields
mod Storing
pub mod Room
pub mod Members
