pub mod FormWords
pub mod Found
pub mod Prelude
pub mod Run
pub mod Sources
pub mod Usage
pub mod View
pub mod Words
