pub mod Mapped
pub mod Passed
