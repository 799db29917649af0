pub mod Entries
pub mod Rounds
pub mod Met
pub mod Laws
pub mod Examples
pub mod inside
