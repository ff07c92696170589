pub mod Asking
pub mod Terms
pub mod Comparing
pub mod Deciding
pub mod Settling
pub mod Run
pub mod Running
pub mod Pairing
