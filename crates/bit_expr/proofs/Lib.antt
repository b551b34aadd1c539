pub mod ArenaLists
pub mod Common
pub mod FoldingCases
pub mod FoldingCounts
pub mod FoldingValues
pub mod KeptReads
pub mod LeafBits
