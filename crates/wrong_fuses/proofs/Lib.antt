pub mod Common
pub mod JudgedBelow
pub mod Passed
pub mod SameMeaning
pub mod Tried
