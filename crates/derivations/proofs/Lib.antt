pub mod Series
pub mod Ways
pub mod Nodes
mod Shifts
mod Halved
mod Factors
pub mod Induction
mod Roots
mod Unshifted
pub mod Pairs
pub mod RowParts
pub mod RowItems
pub mod Answer
pub mod Steps
