pub mod Faults
pub mod Passing
pub mod Prelude
pub mod SameTables
pub mod Verdicts
