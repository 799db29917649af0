pub mod Ahead
pub mod Examples
pub mod Posting
pub mod Postings
pub mod inside
