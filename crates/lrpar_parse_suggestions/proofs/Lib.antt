pub mod FedLemmas
pub mod ChangedLemmas
pub mod StackLemmas
pub mod ReachLemmas
pub mod TrialLemmas
pub mod NumberLemmas
pub mod ListingLemmas
pub mod AddLemmas
