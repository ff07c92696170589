pub mod Folds
pub mod Values
pub mod Induction
pub mod Dependence
