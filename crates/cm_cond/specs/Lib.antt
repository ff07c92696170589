pub mod Values
pub mod Keys
pub mod Holding
pub mod Typing
pub mod Form
pub mod inner
