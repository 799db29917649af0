pub mod Examples
pub mod Rounds
pub mod World
pub mod inside
