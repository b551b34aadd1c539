pub mod Called
pub mod CheckedFiles
pub mod Common
pub mod Facts
pub mod Kept
pub mod Report
