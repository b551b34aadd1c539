pub mod FixedModels
pub mod ModelFiles
