pub mod Derivations
pub mod Ways
pub mod Query
