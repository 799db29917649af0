pub mod Examples
pub mod Hitting
pub mod Listing
pub mod Tree
pub mod inside
