pub mod CompareCommand
pub mod Loading
pub mod PairText
pub mod PortCommand
pub mod Prelude
