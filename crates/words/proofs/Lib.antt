pub mod Reduced
pub mod NormalForm
pub mod Accounting
pub mod Inverse
pub mod Bytes
pub mod Answering
pub mod Unique
mod Parts
mod Stack
mod Arriving
mod Writing
