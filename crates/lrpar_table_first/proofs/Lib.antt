pub mod FirstLemmas
pub mod RowLemmas
pub mod GrowthLemmas
pub mod BeforeLemmas
pub mod SymbolLemmas
pub mod ClearLemmas
