pub mod Examples
pub mod Explaining
pub mod inside
