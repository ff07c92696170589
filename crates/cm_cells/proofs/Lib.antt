mod Fields
mod Searching
mod Tables
pub mod Related
pub mod Beside
pub mod OneType
