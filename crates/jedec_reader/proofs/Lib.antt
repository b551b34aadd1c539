pub mod Common
mod EntryLemmas
mod FieldLoop
mod FileSteps
mod Fits
mod LastOf
mod LevelLists
mod NumberedVectors
mod Numbers
mod OrderFields
mod PinOrders
pub mod Positions
pub mod Ranges
mod Steps
mod WordLemmas
