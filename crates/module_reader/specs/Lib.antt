pub mod Correct
pub mod Fates
pub mod Texts
