pub mod FirstRefusals
mod Regrown
