mod Rewriting
mod Sums
mod Parts
mod NextRows
mod MadeRows
pub mod WordRows
pub mod FilledFits
pub mod Unique
pub mod Reaching
