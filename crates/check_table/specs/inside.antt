pub mod Seated
pub mod Tested
