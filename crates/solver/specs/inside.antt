-- What serves private functions and the invariants of a search.
pub mod Searching
pub mod TestLaws
pub mod Trials
