pub mod formers
pub mod Bits
pub mod DeviceNames
pub mod Digits
pub mod Logic
pub mod Models
pub mod Points
pub mod Texts
