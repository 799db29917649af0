pub mod Left
pub mod Places
pub mod Standing
pub mod Steps
pub mod Told
