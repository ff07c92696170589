pub mod Lines
pub mod Reader
pub mod Trace
pub mod inner
