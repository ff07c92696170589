pub mod OneKind
pub mod Parts
pub mod Expressions
pub mod Bodies
pub mod Calls
pub mod Itself
