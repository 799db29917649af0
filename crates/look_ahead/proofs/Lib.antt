pub mod GuessedKeys
pub mod LevelSteps
pub mod LiveEntries
pub mod TurnLaws
pub mod TurnParts
pub mod WordLevels
