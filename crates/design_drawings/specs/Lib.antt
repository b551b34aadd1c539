pub mod CellRows
pub mod Disagreements
pub mod Equations
pub mod Escaped
pub mod Pieces
pub mod Unescaped
