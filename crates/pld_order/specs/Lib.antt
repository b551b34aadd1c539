pub mod Graphs
pub mod Members
pub mod Search
pub mod Sets
