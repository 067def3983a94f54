pub mod LineLemmas
pub mod ColumnLemmas
pub mod ListLemmas
pub mod FaultLemmas
