pub mod Prelude
pub mod Saying
pub mod Vectoring
