-- What serves private functions.
pub mod Course
pub mod Ready
pub mod Seats
