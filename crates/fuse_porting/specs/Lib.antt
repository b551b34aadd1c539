pub mod Across
pub mod AllowSame
pub mod Controls
pub mod Pairs
pub mod Polarities
pub mod PortedFile
pub mod Prelude
pub mod SameArray
