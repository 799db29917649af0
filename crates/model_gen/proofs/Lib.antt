pub mod Appearing
pub mod DrawLaws
pub mod NodeLaws
pub mod TextLaws
pub mod TreeLaws
pub mod WholeLaws
