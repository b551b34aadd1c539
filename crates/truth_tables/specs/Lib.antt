pub mod ClearParts
pub mod EntryMarks
pub mod EntryTerms
pub mod Found
pub mod Gives
pub mod HeaderSignals
pub mod OutputHeaders
pub mod Prelude
pub mod RowEntries
pub mod Rows
pub mod Stacks
pub mod TableUnits
pub mod TableWalks
pub mod Works
unfoldable pub use ClearParts.*
unfoldable pub use EntryMarks.*
unfoldable pub use EntryTerms.*
unfoldable pub use Found.*
unfoldable pub use Gives.*
unfoldable pub use HeaderSignals.*
unfoldable pub use OutputHeaders.*
unfoldable pub use RowEntries.*
unfoldable pub use Rows.*
unfoldable pub use Stacks.*
unfoldable pub use TableUnits.*
unfoldable pub use TableWalks.*
unfoldable pub use Works.*
