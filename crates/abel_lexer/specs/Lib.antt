pub mod Bytes
pub mod Keywords
pub mod Signs
pub mod Numbers
pub mod Kinds
pub mod Scans
pub mod Lengths
pub mod Remainders
