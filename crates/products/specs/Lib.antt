pub mod Product
pub mod Doubled
pub mod State
