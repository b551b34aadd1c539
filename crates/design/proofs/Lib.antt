pub mod AssignedData
pub mod AssignedNames
pub mod BareTargets
mod CellResets
pub mod ClearTargets
pub mod Common
pub mod Each
pub mod FreeRegisters
mod Gathers
pub mod GivenBlocks
pub mod GivenSections
pub mod GivenSignals
mod LinkSizes
pub mod NamedTerms
pub mod SoundModules
mod Takes
pub mod Unlisted
