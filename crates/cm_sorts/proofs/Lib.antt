pub mod Joining
pub mod Sharing
pub mod Triangle
pub mod Valuations
pub mod Sorting
