pub mod MovedLemmas
pub mod WriterLemmas
