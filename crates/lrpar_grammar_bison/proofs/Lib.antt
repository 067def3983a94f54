pub mod WordsLemmas
pub mod ListLemmas
pub mod LengthLemmas
pub mod OrderLemmas
