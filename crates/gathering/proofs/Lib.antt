pub mod Common
pub mod GivenAmounts
pub mod Graphed
pub mod LinkFacts
pub mod LinkSets
mod Pushed
mod Renamed
pub mod SeenLists
pub mod Standing
