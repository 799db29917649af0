pub mod Examples
pub mod Job
pub mod Right
pub mod Running
pub mod Sequential
pub mod inside
