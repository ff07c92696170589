pub mod Chains
pub mod Finals
