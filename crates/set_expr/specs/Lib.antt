pub mod Answer
pub mod Contexts
pub mod FoundNames
pub mod Given
pub mod KnownNames
pub mod Members
pub mod Prelude
pub mod Refusals
pub mod Scopes
pub mod SectionOrder
pub mod Shapes
unfoldable pub use Answer.*
unfoldable pub use Contexts.*
unfoldable pub use FoundNames.*
unfoldable pub use Given.*
unfoldable pub use KnownNames.*
unfoldable pub use Members.*
unfoldable pub use Refusals.*
unfoldable pub use Scopes.*
unfoldable pub use SectionOrder.*
unfoldable pub use Shapes.*
