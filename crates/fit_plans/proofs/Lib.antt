pub mod Common
pub mod ControlFuses
pub mod FuseSteps
pub mod HeldRows
pub mod InsideLists
pub mod OwnedRows
pub mod PlannedCubes
pub mod PlannedRows
pub mod PoolLists
mod Ready
pub mod TurnedCubes
pub mod TurnedLiterals
pub mod TurnedRows
