pub mod AcceptedNames
pub mod Marking
pub mod Numbered
pub mod Prelude
pub mod Reading
pub mod Settled
unfoldable pub use AcceptedNames.*
unfoldable pub use Marking.*
unfoldable pub use Numbered.*
unfoldable pub use Reading.*
unfoldable pub use Settled.*
