pub mod Places
pub mod Parts
pub mod Leading
mod Finding
mod Steps
mod Forward
mod Pairs
mod Visiting
mod Making
mod Levelled
mod Using
mod Closed
mod Sound
mod Complete
pub mod Exact
pub mod Filled
pub mod Unique
