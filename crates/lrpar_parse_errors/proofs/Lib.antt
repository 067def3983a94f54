pub mod SequenceTextLemmas
pub mod FailureLemmas
pub mod ErrorTextLemmas
pub mod LexParseTextLemmas
pub mod ActedOnLemmas
pub mod TestLemmas
