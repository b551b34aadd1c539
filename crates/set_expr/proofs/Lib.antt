pub mod Common
pub mod FoundMembers
pub mod NamesMore
pub mod SetMembers
pub mod Spine
pub mod SummedUp
pub mod WholeNumbers
