mod Carried
pub mod Common
mod JoinedFirsts
pub mod LearntName
mod PlacedNames
mod PositionTerms
mod RefusedStatements
pub mod UsesRead
mod Verdicts
