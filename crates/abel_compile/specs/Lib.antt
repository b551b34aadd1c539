pub mod Answers
pub mod Compiling
pub mod Correct
pub mod Fuses
pub mod Prelude
pub mod Statement
