pub mod Reading
pub mod SectionAnswers
pub mod SectionUnits
unfoldable pub use Reading.*
unfoldable pub use SectionAnswers.*
unfoldable pub use SectionUnits.*
