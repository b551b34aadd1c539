pub mod Common
pub mod SameVectors
pub mod WithMore
