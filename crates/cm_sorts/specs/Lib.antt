pub mod Partition
pub mod inner
