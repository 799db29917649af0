pub mod AloneLaws
pub mod CourseLaws
pub mod RoundLaws
