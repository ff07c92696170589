mod Places
mod RightForms
pub mod RightTurns
mod Writing
mod Taking
pub mod Going
mod Samples
