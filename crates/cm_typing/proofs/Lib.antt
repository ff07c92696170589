pub mod Alternatives
pub mod Counting
pub mod NameLemmas
pub mod Samples
pub mod Telling
pub mod WeightForms
