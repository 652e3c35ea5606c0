pub mod OrderLemmas
pub mod TraceLemmas
pub mod WorkedLemmas
