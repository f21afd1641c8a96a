pub mod ReducedList
mod ByQuestions
pub mod PosedReady
pub mod InRoom
