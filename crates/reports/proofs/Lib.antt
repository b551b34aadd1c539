pub mod Common
pub mod ControlOrder
pub mod Counts
pub mod NamedCells
pub mod RefusedCells
pub mod WarnedNames
pub mod WarnedSums
pub mod WarnedWords
