pub mod Card
pub mod Made
pub mod Questions
pub mod Reading
pub mod Flattening
pub mod Calls
pub mod Lending
