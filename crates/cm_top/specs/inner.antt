pub mod Pieces
pub mod Run
pub mod Sections
