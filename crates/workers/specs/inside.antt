-- What serves private functions and the invariants of a worker's parts.
pub mod Staying
pub mod StayLaws
pub mod Tickets
