pub mod Common
pub mod FewVectors
