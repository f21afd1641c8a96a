pub mod Rules
pub mod Filling
pub mod Nodes
pub mod Relaxing
pub mod Levelling
pub mod Closing
