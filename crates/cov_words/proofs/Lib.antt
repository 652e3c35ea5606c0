pub mod Known
pub mod WordsLemmas
pub mod LawsLemmas
pub mod Within
