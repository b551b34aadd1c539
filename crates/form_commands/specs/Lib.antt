pub mod DumpLines
pub mod Dumps
pub mod Prelude
pub mod Reading
pub mod Writing
