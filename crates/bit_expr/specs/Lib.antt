pub mod Arena
pub mod Folding
pub mod Formulas
pub mod Keeping
pub mod Reading
