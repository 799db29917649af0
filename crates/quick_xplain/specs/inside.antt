pub mod Remaining
pub mod Standing
