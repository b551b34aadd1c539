pub mod Builds
pub mod Checks
pub mod Prelude
pub mod StatementUnits
pub mod StatementWalks
unfoldable pub use Builds.*
unfoldable pub use Checks.*
unfoldable pub use StatementUnits.*
unfoldable pub use StatementWalks.*
