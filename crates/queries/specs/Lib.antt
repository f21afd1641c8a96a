pub mod Posing
pub mod Ready
pub mod Arrays
