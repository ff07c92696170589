pub mod Prefixes
pub mod Arguments
pub mod Sets
pub mod Leaves
pub mod Walking
