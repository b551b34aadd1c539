pub mod Drawing
pub mod Machine
pub mod Pulses
pub mod SourceText
