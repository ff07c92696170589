pub mod Scopes
pub mod Lines
