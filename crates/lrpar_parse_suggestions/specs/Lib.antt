pub mod Changed
pub mod Suggestions
pub mod PlainSuggestions
pub mod Listing
pub mod TrialView
