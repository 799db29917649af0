pub mod Descent
pub mod Scan
pub mod Within
