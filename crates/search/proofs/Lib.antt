mod SameRows
mod Laid
mod Deciding
mod Tabulating
