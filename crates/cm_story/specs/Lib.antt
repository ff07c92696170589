pub mod Tale
pub mod Story
pub mod Following
pub mod Touches
pub mod Local
pub mod Running
pub mod Seen
