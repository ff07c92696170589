pub mod Order
pub mod Forks
pub mod Told
pub mod OfPairs
