pub mod AllSections
pub mod FoundVectors
pub mod GivenChars
pub mod HeaderSides
pub mod Prelude
pub mod ReadRows
pub mod SourceVectors
pub mod VectorAnswers
pub mod VectorRefusals
unfoldable pub use AllSections.*
unfoldable pub use FoundVectors.*
unfoldable pub use GivenChars.*
unfoldable pub use HeaderSides.*
unfoldable pub use ReadRows.*
unfoldable pub use SourceVectors.*
unfoldable pub use VectorAnswers.*
unfoldable pub use VectorRefusals.*
