pub mod Compared
pub mod Prelude
pub mod Simulated
pub mod Traced
pub mod VectorRun
pub mod VectorSteps
