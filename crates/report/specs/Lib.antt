pub mod Lines
pub mod Report
pub mod Examples
pub mod inside
