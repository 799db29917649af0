pub mod Puts
pub mod Runs
pub mod MustsLemmas
pub mod JobLaws
pub mod LinesLemmas
pub mod AnswerLaws
pub mod AdviceLaws
pub mod LimitLaws
