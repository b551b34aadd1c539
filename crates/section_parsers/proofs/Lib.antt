pub mod Common
mod LastState
mod Stops
