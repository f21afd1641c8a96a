pub mod Reading
mod LetterSpans
