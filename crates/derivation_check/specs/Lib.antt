pub mod Checking
pub mod Examples
pub mod Lines
pub mod inside
