pub mod Amounts
pub mod Asking
pub mod Linked
pub mod Linking
pub mod Links
pub mod Parts
pub mod Placed
pub mod Prelude
pub mod Resets
unfoldable pub use Amounts.*
unfoldable pub use Asking.*
unfoldable pub use Linked.*
unfoldable pub use Linking.*
unfoldable pub use Links.*
unfoldable pub use Parts.*
unfoldable pub use Placed.*
unfoldable pub use Resets.*
