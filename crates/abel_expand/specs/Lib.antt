pub mod Origins
pub mod Runs
pub mod Stands
