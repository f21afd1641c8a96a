pub mod Tables
mod Walking
mod Filling
mod Marks
mod Spreading
mod TakingIn
mod MarksDecide
mod ByQuestions
