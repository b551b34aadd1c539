pub mod AnyGuards
pub mod Common
mod DiagramExamples
pub mod GoalWorks
pub mod GuardLaws
pub mod GuardsOfStates
pub mod LevelWords
pub mod MatchLaws
pub mod NumberLaws
pub mod StateBits
pub mod StandingParts
pub mod StateLaws
pub mod StillBits
pub mod WalkedBranches
pub mod WalkedDiagrams
