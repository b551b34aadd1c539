pub mod Common
pub mod ComparedFiles
pub mod PinDigits
