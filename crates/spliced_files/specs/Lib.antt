pub mod Header
pub mod Kept
pub mod Prelude
pub mod Spliced
