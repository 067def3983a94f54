-- The grammar of the text `%% E: T '+' E | T; T: 'ID';`, an example for the definitions: tokens `+` 0, ID 1, the end token 2;
-- rules E 1, T 2; productions `E: T '+' E` 0, `E: T` 1, `T: 'ID'` 2, `^: E` 3.
use Rattle.std.specs.Prelude.{◌≡◌, ℕ, false, List, [], ◌∷◌, codes, Some, None}
use Rattle.lrpar_grammar_places.specs.Span.{Extent}
use Rattle.lrpar_grammar_reader.specs.Grammar.{Grammar, GrammarSymbol, Production, Nonterminal, Terminal, added_rule, added_prod, rules_len, prods_len, tokens_len, end_token, start_prod, symbols_of, prod_len, rule_of, symbol_spans_of, prod_span_of, rule_name, rule_span, token_name, token_epp, token_span, prods_of}
use Rattle.lrpar_grammar.specs.Tree.{Tree, Leaf, Branch, Nil, Cons, leaves, productions, Fits}
use Rattle.lrpar_grammar.specs.Sentence.{LexemeFacts}

-- a part of the grammar's text
abbrev extent : ℕ → ℕ → Extent
extent start end = record { start = start; end = end }

-- a production
abbrev prod : ℕ → List GrammarSymbol → List Extent → Extent → Production
prod rule symbols spans span = record { rule = rule; symbols = symbols; symbol_spans = spans; span = span }

-- the grammar of sums: `E: T '+' E | T; T: 'ID';`
abbrev pub sum_grammar : Grammar
sum_grammar = record {
  rules = added_rule ∷ record { name = codes "E"; span = extent 3 4 } ∷ record { name = codes "T"; span = extent 19 20 } ∷ [];
  tokens = record { name = codes "+"; epp = codes "+"; span = extent 9 10 } ∷ record { name = codes "ID"; epp = codes "ID"; span = extent 23 25 } ∷ [];
  prods = prod 1 (Nonterminal 2 ∷ Terminal 0 ∷ Nonterminal 1 ∷ []) (extent 6 7 ∷ extent 9 10 ∷ extent 12 13 ∷ []) (extent 6 13)
      ∷ prod 1 (Nonterminal 2 ∷ []) (extent 16 17 ∷ []) (extent 16 17)
      ∷ prod 2 (Terminal 1 ∷ []) (extent 23 25 ∷ []) (extent 23 25)
      ∷ added_prod 1 ∷ [];
  start = 1;
}

-- the tree of a text that reads ID `+` ID, over its three lexemes
abbrev pub tree_of_sum : {X : Type 0} → X → X → X → Tree X
tree_of_sum {X} left plus right =
    let term : X → Tree X = λ x. Branch 2 (Cons (Leaf x) Nil) in
    Branch 0 (Cons (term left) (Cons (Leaf plus) (Cons (Branch 1 (Cons (term right) Nil)) Nil)))

-- the tree of the text ID `+` ID, over bare tokens
abbrev pub token_tree : Tree ℕ
token_tree = tree_of_sum 1 0 1

-- a lexeme of a text; no repair made it
abbrev lexeme : ℕ → ℕ → ℕ → LexemeFacts
lexeme token start end = record { token = token; span = extent start end; faulty = false }

-- the three lexemes of the text `a+b`
abbrev pub sum_lexemes : List LexemeFacts
sum_lexemes = lexeme 1 0 1 ∷ lexeme 0 1 2 ∷ lexeme 1 2 3 ∷ []

-- the tree of the text `a+b`
abbrev pub sum_tree : Tree LexemeFacts
sum_tree = tree_of_sum (lexeme 1 0 1) (lexeme 0 1 2) (lexeme 1 2 3)

-- what the definitions say about the grammar and the tree over tokens
pub record SumIsWorkedOut : Type 0 where
  pub rules : rules_len sum_grammar ≡ 3
  pub prods : prods_len sum_grammar ≡ 4
  pub tokens : tokens_len sum_grammar ≡ 3
  pub end : end_token sum_grammar ≡ 2
  pub start : start_prod sum_grammar ≡ 3
  pub symbols : symbols_of sum_grammar 0 ≡ Nonterminal 2 ∷ Terminal 0 ∷ Nonterminal 1 ∷ []
  pub len : prod_len sum_grammar 0 ≡ 3
  pub symbol_spans : symbol_spans_of sum_grammar 1 ≡ extent 16 17 ∷ []
  pub prod_span : prod_span_of sum_grammar 0 ≡ extent 6 13
  pub rule : rule_of sum_grammar 2 ≡ 2
  pub of_rule : prods_of sum_grammar 1 ≡ 0 ∷ 1 ∷ []
  pub added : prods_of sum_grammar 0 ≡ 3 ∷ []
  pub name : rule_name sum_grammar 0 ≡ codes "^"
  pub name_span : rule_span sum_grammar 2 ≡ extent 19 20
  pub token : token_name sum_grammar 1 ≡ Some (codes "ID")
  pub printed : token_epp sum_grammar 0 ≡ Some (codes "+")
  pub span : token_span sum_grammar 1 ≡ Some (extent 23 25)
  pub unnamed : token_name sum_grammar 2 ≡ None
  pub leaves : leaves token_tree ≡ 1 ∷ 0 ∷ 1 ∷ []
  pub productions : productions token_tree ≡ 2 ∷ 2 ∷ 1 ∷ 0 ∷ []
  pub fits : Fits (λ token. token) sum_grammar token_tree (Nonterminal 1)
