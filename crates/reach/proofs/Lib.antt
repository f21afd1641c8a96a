mod RoomPassed
mod LastEntry
mod AfterQuestions
mod GivenList
pub mod Relations
