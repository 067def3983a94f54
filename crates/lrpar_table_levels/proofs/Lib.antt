pub mod FilledLemmas
pub mod LevelLemmas
pub mod NameLemmas
