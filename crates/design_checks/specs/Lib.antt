pub mod Compared
pub mod Correct
pub mod Example
pub mod Fronts
pub mod Learnt
pub mod LocatedUses
pub mod NameValues
pub mod Prelude
pub mod Refused
pub mod RefusedUses
pub mod SectionUses
pub mod SignalsRefused
pub mod UsesRefused
pub mod Verdict
pub mod Written
unfoldable pub use Compared.*
unfoldable pub use Correct.*
unfoldable pub use Example.*
unfoldable pub use Fronts.*
unfoldable pub use Learnt.*
unfoldable pub use LocatedUses.*
unfoldable pub use NameValues.*
unfoldable pub use Refused.*
unfoldable pub use RefusedUses.*
unfoldable pub use SectionUses.*
unfoldable pub use SignalsRefused.*
unfoldable pub use UsesRefused.*
unfoldable pub use Verdict.*
unfoldable pub use Written.*
