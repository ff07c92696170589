pub mod Membership
pub mod Least
pub mod Relabelling
pub mod Limits
pub mod Example
