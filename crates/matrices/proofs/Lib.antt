pub mod Signed
pub mod Range
mod Signs
mod Parts
mod Forms
mod Writing
mod Reduction
pub mod TurnedMatrix
pub mod RoundTrip
