pub mod LineLemmas
pub mod TextLemmas
pub mod BlockLemmas
pub mod ConflictLemmas
