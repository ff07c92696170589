pub mod CellTable
pub mod Comparison
pub mod Touching
pub mod Alike
pub mod inner
