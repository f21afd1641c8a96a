mod GeneratorFields
mod LettersRead
mod Skipping
mod WholeReads
pub mod ListBytes
pub mod MadeRead
mod PushingList
mod FlatAnswers
mod FlatFronts
mod LettersBehind
mod ProductAnswers
mod LongForms
mod MatrixAnswers
mod CardEnds
pub mod LinedAnswers
