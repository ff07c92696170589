pub mod Paths
pub mod Counts
pub mod Faults
pub mod Progress
pub mod inner
