pub mod ExpandingLemmas
pub mod ExpansionLemmas
pub mod KeptLemmas
mod ListLemmas
