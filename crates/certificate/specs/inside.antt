-- What serves private functions.
pub mod Ahead
pub mod Fronts
pub mod Kinds
pub mod Parts
pub mod Passing
pub mod Pieces
pub mod Said
