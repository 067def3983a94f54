pub mod SharedStacksLemmas
pub mod CurrentLemmas
