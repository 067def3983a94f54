pub mod RulesLemmas
pub mod OrderLemmas
pub mod AliasLemmas
