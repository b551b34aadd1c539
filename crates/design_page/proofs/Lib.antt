pub mod KeptLemmas
pub mod ToldCosts
