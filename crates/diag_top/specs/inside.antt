pub mod Doing
pub mod Follows
pub mod Jobs
