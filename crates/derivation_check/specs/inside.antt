-- What serves private functions and the invariant of a checker.
pub mod Assumed
pub mod Checked
pub mod Negations
