pub mod Relaxing
pub mod Passing
pub mod Closing
