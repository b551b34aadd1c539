pub mod Called
pub mod Settled
