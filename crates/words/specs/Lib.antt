pub mod Word
pub mod Bytes
pub mod Parts
pub mod Account
pub mod Calls
pub mod Arrival
