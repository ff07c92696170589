pub mod Conflicts
pub mod Judge
pub mod Summary
pub mod inner
