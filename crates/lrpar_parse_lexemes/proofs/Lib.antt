pub mod RepairLemmas
pub mod PlaceLemmas
pub mod SpacesLemmas
pub mod PlacedLemmas
