pub mod Fits
pub mod Lines
pub mod Phases
pub mod Placings
pub mod Prelude
pub mod SourceRefusals
