pub mod Drawn
pub mod Leaves
pub mod MixedTable
pub mod Named
pub mod Prelude
