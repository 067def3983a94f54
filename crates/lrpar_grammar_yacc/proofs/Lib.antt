pub mod EndLemmas
pub mod PartLemmas
pub mod StepLemmas
pub mod DeclareLemmas
pub mod OwnLemmas
pub mod FaultLemmas
pub mod BlankLemmas
pub mod YaccFileLemmas
