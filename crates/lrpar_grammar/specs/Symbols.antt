-- Symbols and productions of the code, by their numbers, as the crate below defines them.
pub use Rattle.lrpar_grammar_reader.specs.Symbols.{symbol_of, prod_numbers}
