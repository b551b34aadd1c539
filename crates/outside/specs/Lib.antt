pub mod Causes
pub mod HostState
pub mod Memory
pub mod MemoryState
pub mod Outside
