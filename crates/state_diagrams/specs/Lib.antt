pub mod ArmGuards
pub mod Arms
pub mod DiagramPlaces
pub mod DiagramStands
pub mod DiagramUnits
pub mod DiagramWalks
pub mod DiagramWorks
pub mod Goals
pub mod Matches
pub mod Places
pub mod Prelude
pub mod Registers
pub mod StateGuards
pub mod StateValues
unfoldable pub use ArmGuards.*
unfoldable pub use Arms.*
unfoldable pub use DiagramPlaces.*
unfoldable pub use DiagramStands.*
unfoldable pub use DiagramUnits.*
unfoldable pub use DiagramWalks.*
unfoldable pub use DiagramWorks.*
unfoldable pub use Goals.*
unfoldable pub use Matches.*
unfoldable pub use Places.*
unfoldable pub use Registers.*
unfoldable pub use StateGuards.*
unfoldable pub use StateValues.*
