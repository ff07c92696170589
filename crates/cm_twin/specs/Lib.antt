pub mod Names
pub mod Twins
pub mod Own
pub mod Numbered
