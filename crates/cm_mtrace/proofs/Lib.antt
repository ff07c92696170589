pub mod Bad
pub mod Entries
pub mod Items
pub mod LineTexts
pub mod Pieces
pub mod Stepping
pub mod Steps
pub mod Streams
