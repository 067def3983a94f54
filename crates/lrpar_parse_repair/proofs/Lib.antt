pub mod TokenLemmas
pub mod SequenceLemmas
pub mod StepComparisonLemmas
pub mod TestWorkLemmas
pub mod EngineLemmas
pub mod ReplayLemmas
pub mod SomeWorksLemmas
pub mod ListedLemmas
