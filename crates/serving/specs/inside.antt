-- What serves private functions.
pub mod Carrying
pub mod Staying
