pub mod Grading
pub mod Prelude
pub mod Report
