pub mod BuiltParts
pub mod BuiltUnits
pub mod CheckedUnits
pub mod Common
mod ExampleRefusals
pub mod StandingStatements
pub mod WalkedStatements
pub mod WalkedUnits
mod Written
