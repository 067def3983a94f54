pub mod Reworded
pub mod FirstTokenLemmas
pub mod ItemwiseLemmas
pub mod CoreLemmas
pub mod EntryTests
