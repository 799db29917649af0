pub mod Boards
pub mod Going
pub mod Making
pub mod Playing
pub mod RoundLaws
pub mod Worlds
