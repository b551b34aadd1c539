pub mod PhaseOutsides
pub mod Told
