pub mod formers
pub mod Valuation
pub mod Atoms
pub mod Questions
pub mod Terms
pub mod Symbols
