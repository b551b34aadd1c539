pub mod Accepted
pub mod Answers
pub mod AssignedCorrect
pub mod Chains
pub mod NamedCorrect
pub mod Prelude
pub mod Unrefused
unfoldable pub use Accepted.*
unfoldable pub use Answers.*
unfoldable pub use AssignedCorrect.*
unfoldable pub use Chains.*
unfoldable pub use NamedCorrect.*
unfoldable pub use Unrefused.*
