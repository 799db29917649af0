pub mod Board
pub mod Events
pub mod Examples
