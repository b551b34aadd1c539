pub mod Common
pub mod GivenLines
pub mod Joined
pub mod Ranges
