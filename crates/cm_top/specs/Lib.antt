pub mod Endings
pub mod Fetch
pub mod Files
pub mod Judging
pub mod Output
pub mod Status
pub mod Tasks
pub mod inner
