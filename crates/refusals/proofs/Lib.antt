pub mod Telling
pub mod Asking
pub mod FirstOther
