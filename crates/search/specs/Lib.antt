pub mod Search
pub mod Answering
