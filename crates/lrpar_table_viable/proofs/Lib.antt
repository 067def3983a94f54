pub mod CoreLemmas
pub mod FaultLemmas
pub mod MarkLemmas
pub mod PassLemmas
