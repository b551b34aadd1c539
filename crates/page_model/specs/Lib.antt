pub mod Cells
pub mod Idle
pub mod LevelReads
pub mod Phases
pub mod PinNames
pub mod Pins
pub mod Told
