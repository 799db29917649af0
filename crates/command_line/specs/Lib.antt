pub mod Numbers
pub mod Words
pub mod Request
pub mod Status
pub mod WordsExamples
pub mod inside
