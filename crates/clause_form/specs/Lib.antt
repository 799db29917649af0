pub mod ClauseForm
pub mod Examples
pub mod Gates
pub mod Groups
pub mod Laws
pub mod Parts
pub mod ProblemExamples
