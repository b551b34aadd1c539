pub mod Along
pub mod ExpressionBits
pub mod Held
pub mod Making
pub mod Members
pub mod Operators
pub mod Parts
pub mod Pieces
pub mod Positions
pub mod Prelude
pub mod Reads
pub mod Shaping
pub mod Showing
pub mod Stacks
pub mod Steps
pub mod Still
pub mod Weights
unfoldable pub use Along.*
unfoldable pub use ExpressionBits.*
unfoldable pub use Held.*
unfoldable pub use Making.*
unfoldable pub use Members.*
unfoldable pub use Operators.*
unfoldable pub use Parts.*
unfoldable pub use Pieces.*
unfoldable pub use Positions.*
unfoldable pub use Reads.*
unfoldable pub use Shaping.*
unfoldable pub use Showing.*
unfoldable pub use Stacks.*
unfoldable pub use Steps.*
unfoldable pub use Still.*
unfoldable pub use Weights.*
