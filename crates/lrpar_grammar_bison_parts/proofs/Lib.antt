pub mod GrammarLemmas
pub mod MidruleLemmas
pub mod NameLemmas
pub mod OutlineLemmas
pub mod PrecedenceLemmas
pub mod UnquotedLemmas
pub mod NumberLemmas
