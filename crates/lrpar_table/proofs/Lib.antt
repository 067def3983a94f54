pub mod CompleteLemmas
pub mod ResolvedLemmas
pub mod DataLemmas
pub mod ViableLemmas
