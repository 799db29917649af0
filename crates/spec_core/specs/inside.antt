-- What serves private functions, and the invariant of a world.
pub mod Fitting
pub mod Making
