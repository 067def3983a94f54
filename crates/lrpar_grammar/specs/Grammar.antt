-- Grammars, as the crate below defines them.
pub use Rattle.lrpar_grammar_reader.specs.Grammar.{GrammarSymbol, Nonterminal, Terminal, RuleName, TokenName, Production, Grammar, added_rule, added_prod, rules_len, prods_len, tokens_len, end_token, start_prod, symbols_of, prod_len, rule_of, symbol_spans_of, prod_span_of, rule_name, rule_span, token_name, token_epp, token_span, prods_from, prods_of, IsDeclaredSymbol, HasSpans, IsWellFormed}
