pub mod Stack
pub mod View
pub mod Sound
