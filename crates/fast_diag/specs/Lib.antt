pub mod Diagnosing
pub mod Examples
pub mod inside
