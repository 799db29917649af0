pub mod NameMap
pub mod Named
pub mod TierOrder
pub mod Requirements
pub mod Drafts
pub mod Files
