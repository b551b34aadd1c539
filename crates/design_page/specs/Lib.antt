pub mod Costly
pub mod Kept
