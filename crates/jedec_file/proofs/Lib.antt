pub mod PlainFile
pub mod SameSizes
