pub mod AssigningParts
pub mod Common
pub mod Digits
pub mod HoldingParts
pub mod Listed
mod Lists
mod TargetMembers
pub mod TargetSignals
mod Unrolled
