pub mod WordsLemmas
pub mod OutlineLemmas
pub mod StuckLemmas
pub mod PlaceLemmas
pub mod PhraseLemmas
pub mod AheadLemmas
pub mod FormLemmas
pub mod LongestLemmas
