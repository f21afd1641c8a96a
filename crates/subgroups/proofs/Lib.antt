mod SignedFactors
mod Sizes
mod Verdicts
mod Lists
mod FactorParts
mod Showing
pub mod Relations
