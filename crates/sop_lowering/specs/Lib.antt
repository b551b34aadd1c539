pub mod Keeping
pub mod Lowering
pub mod Prelude
pub mod Products
pub mod Through
pub mod Values
pub mod Written
