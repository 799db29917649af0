pub mod Ending
pub mod Examples
pub mod Stopping
pub mod inside
