pub mod Drafts
pub mod Good
pub mod Next
pub mod Standing
