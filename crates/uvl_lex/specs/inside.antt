pub mod Classes
pub mod Cursors
pub mod Progress
