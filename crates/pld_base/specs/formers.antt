pub mod boxed
pub mod list_of
