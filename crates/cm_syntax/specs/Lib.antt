pub mod Form
pub mod Spelling
pub mod Text
pub mod inner
