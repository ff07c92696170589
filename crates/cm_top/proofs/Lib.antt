pub mod Causes
pub mod Endings
pub mod Files
pub mod Judgements
pub mod Parts
pub mod Runs
pub mod SectionSteps
