pub mod Clause
pub mod Closure
pub mod Examples
pub mod Letters
pub mod Met
pub mod Problem
pub mod Search
pub mod SearchExamples
