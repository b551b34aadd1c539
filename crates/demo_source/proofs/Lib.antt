pub mod Common
pub mod Drawn
pub mod Lines
pub mod Ordered
pub mod Outsides
