pub mod Common
pub mod Ending
pub mod Giving
pub mod Growth
pub mod Turning
