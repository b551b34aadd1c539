pub mod IdleFuses
pub mod SameLogic
pub mod SpareFuses
