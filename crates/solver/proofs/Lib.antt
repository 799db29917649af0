pub mod SearchLaws
pub mod SolveLaws
pub mod TrialLaws
