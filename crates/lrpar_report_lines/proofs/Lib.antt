pub mod EditLemmas
pub mod PlaceLemmas
