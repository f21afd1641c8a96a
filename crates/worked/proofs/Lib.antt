pub mod Accounts
pub mod Pairs
pub mod Quick
pub mod Refused
pub mod Relations
pub mod Signed
pub mod Trying
pub mod Values
