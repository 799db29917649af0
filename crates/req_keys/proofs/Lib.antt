pub mod HashLaws
pub mod KeyRowLaws
pub mod MemberLaws
pub mod OrderLaws
pub mod PositionsLaws
pub mod Rises
pub mod RowLaws
pub mod WordLaws
