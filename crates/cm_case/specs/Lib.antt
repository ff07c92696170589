pub mod Right
pub mod Report
pub mod Growing
pub mod Named
