pub mod Common
pub mod SectionsAnswered
pub mod SectionsWalked
pub mod SourceAnswers
