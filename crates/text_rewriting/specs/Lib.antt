pub mod Bound
pub mod Fronts
pub mod Gathering
pub mod Marks
pub mod Prelude
pub mod RuleMoves
pub mod Shown
