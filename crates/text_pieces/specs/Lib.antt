pub mod Modes
pub mod Brackets
pub mod Stacks
pub mod Homes
pub mod Known
pub mod Stops
pub mod Opened
pub mod Places
