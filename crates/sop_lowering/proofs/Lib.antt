pub mod Common
pub mod InsertedValues
pub mod KeptLists
pub mod ListStops
pub mod Operands
pub mod Turns
pub mod WrittenValues
