pub mod Appending
pub mod Building
pub mod Given
pub mod GivenUnits
pub mod Gives
pub mod Manners
pub mod NamedTargets
pub mod Prelude
pub mod TargetSignals
pub mod Units
pub mod ValueWidths
pub mod Walking
unfoldable pub use Appending.*
unfoldable pub use Building.*
unfoldable pub use Given.*
unfoldable pub use GivenUnits.*
unfoldable pub use Gives.*
unfoldable pub use Manners.*
unfoldable pub use NamedTargets.*
unfoldable pub use TargetSignals.*
unfoldable pub use Units.*
unfoldable pub use ValueWidths.*
unfoldable pub use Walking.*
