pub mod Common
mod DrawnNames
mod LinkLeaves
mod PlacedNames
