pub mod Forms
pub mod inner
pub mod Tasks
pub mod Values
