pub mod CheckLaws
pub mod CheckerLaws
pub mod LineLaws
pub mod NegationLaws
