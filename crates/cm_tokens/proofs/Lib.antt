pub mod Gaps
pub mod Runs
pub mod Firsts
pub mod Listings
pub mod Ends
