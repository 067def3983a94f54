pub mod AnswerLemmas
pub mod RepairedLemmas
pub mod LeafLemmas
pub mod SentenceLemmas
pub mod WorkedLemmas
