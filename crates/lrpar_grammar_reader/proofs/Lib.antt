pub mod NamesLemmas
pub mod GrowthLemmas
pub mod FaultsLemmas
pub mod SpanLemmas
pub mod SpellsLemmas
pub mod SpellsFitLemmas
pub mod FaultTextLemmas
