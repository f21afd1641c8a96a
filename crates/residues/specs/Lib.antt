pub mod Residues
pub mod Made
