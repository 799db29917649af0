pub mod NumbersLemmas
pub mod ChosenLemmas
