pub mod Symbols
pub mod Cells
pub mod Literals
pub mod Reports
pub mod inner
