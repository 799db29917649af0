pub mod Examples
pub mod Laws
pub mod Pieces
pub mod Places
pub mod Reading
pub mod Text
pub mod Words
pub mod inside
