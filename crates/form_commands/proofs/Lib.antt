pub mod Modes
pub mod Refused
