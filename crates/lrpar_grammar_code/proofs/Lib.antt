pub mod CodeLemmas
pub mod LiteralLemmas
