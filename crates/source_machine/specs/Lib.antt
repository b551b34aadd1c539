pub mod AnyAs0
pub mod Choices
pub mod Correct
pub mod Finding
pub mod NetlistLookups
pub mod Prelude
pub mod SignalLinks
