pub mod Examples
pub mod Propagation
pub mod Room
pub mod Roots
pub mod inside
