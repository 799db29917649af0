pub mod Appends
pub mod Distinct
pub mod Members
pub mod Ranges
