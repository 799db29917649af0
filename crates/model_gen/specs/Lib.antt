pub mod Draws
pub mod Examples
pub mod Lines
pub mod Texts
pub mod Whole
pub mod inside
