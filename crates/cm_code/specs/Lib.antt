pub mod Rules
pub mod Language
pub mod Code
pub mod Compiling
pub mod Machine
pub mod Steps
pub mod inner
