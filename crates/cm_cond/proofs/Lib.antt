pub mod Symbols
pub mod Keys
