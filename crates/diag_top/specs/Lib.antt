pub mod Work
pub mod Refusals
pub mod Unindented
pub mod Answer
pub mod Run
pub mod Laws
pub mod AnswerExamples
pub mod inside
