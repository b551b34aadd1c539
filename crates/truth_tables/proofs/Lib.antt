pub mod ClearHeaders
pub mod ClearNames
pub mod Common
pub mod ExampleTrees
pub mod GivenLaws
pub mod HeaderLaws
pub mod InputLaws
pub mod NamesInOrder
pub mod NamesKept
pub mod OutputPositions
pub mod PairLaws
pub mod PartLaws
pub mod ProductLaws
pub mod ReadLaws
mod RowExamples
pub mod RowWorks
pub mod RowsWalked
pub mod SignalLaws
pub mod StackLaws
mod TableExamples
pub mod WorkLaws
