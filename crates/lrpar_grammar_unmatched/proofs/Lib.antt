pub mod CopyLemmas
pub mod NameLemmas
pub mod SoundLemmas
pub mod TokenLawLemmas
