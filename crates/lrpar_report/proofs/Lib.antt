pub mod LoopLemmas
pub mod PlaceLemmas
