pub mod Rising
pub mod FirstOthers
pub mod Passing
mod Refusing
mod NormalForms
pub mod Behind
mod Forms
mod Answering
mod InverseForms
pub mod NormalList
pub mod ShortForms
pub mod ReducedList
pub mod SignedList
