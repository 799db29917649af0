-- What serves private functions and the invariant of a propagator.
pub mod Building
pub mod Cutting
pub mod Levels
pub mod Numbers
pub mod Places
pub mod RootTrials
pub mod Trails
pub mod Pairing
pub mod UpToDate
pub mod Values
pub mod Visits
pub mod Watching
pub mod Sorting
