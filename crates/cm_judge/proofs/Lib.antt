pub mod Accesses
pub mod Covered
pub mod Keeps
pub mod Same
pub mod Merges
pub mod Notes
pub mod Found
pub mod Listed
