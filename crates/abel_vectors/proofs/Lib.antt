pub mod Common
pub mod FoundLaws
pub mod GivenLaws
pub mod RowLaws
pub mod SectionLaws
pub mod TestChars
mod VectorExamples
