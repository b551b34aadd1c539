pub mod FileModels
