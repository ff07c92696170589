pub mod Closing
pub mod Extending
pub mod Filling
pub mod Places
pub mod Runs
pub mod Valuations
