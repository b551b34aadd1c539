pub mod Binary
pub mod InForm
pub mod LineEnds
pub mod Prelude
pub mod Repairs
pub mod Signature
pub mod Warnings
