pub mod Ranges
pub mod Rows
pub mod Truths
pub mod Counts
pub mod Extensions
pub mod Within
