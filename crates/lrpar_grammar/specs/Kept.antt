-- What the grammar value keeps, and the grammar that it represents.
use Rattle.std.specs.Prelude.{◌≡◌, ◌<◌, ◌≤◌, ℕ, All, List, [], ◌∷◌, ◌++◌, Some, length, map, slice_get, slice_index_or, Vec}
use Rattle.std.specs.declared.alloc.Global.{Global}
use Rattle.lrpar_grammar_places.specs.declared.span.PIdx.{PIdx}
use Rattle.lrpar_grammar_places.specs.declared.span.RIdx.{RIdx}
use Rattle.lrpar_grammar.specs.declared.grammar.prods.SplitProd.{SplitProd}
use Rattle.lrpar_grammar_reader.specs.declared.parts.ProdPart.{ProdPart}
use Rattle.lrpar_grammar_reader.specs.declared.parts.RulePart.{RulePart}
use Rattle.lrpar_grammar_reader.specs.declared.parts.TokenPart.{TokenPart}
use Rattle.lrpar_grammar_reader.specs.Parts.{prod_of, rule_name_of, token_name_of}
use Rattle.lrpar_grammar_reader.specs.Grammar.{Grammar, Production, added_prod, added_rule, prods_from, rules_len, tokens_len, prods_len, IsWellFormed}
use Rattle.lrpar_grammar_reader.specs.SpansFit.{ProductionFits}
use Rattle.lrpar_grammar_reader.specs.Symbols.{prod_numbers, symbol_of}

-- a kept production, by its numbers
abbrev pub split_prod_of : {S : Type 0} → (S → ℕ) → SplitProd S → Production
split_prod_of index p = record {
  rule = index p.rule.0;
  symbols = map (symbol_of index) p.symbols.items;
  symbol_spans = p.symbol_spans.items;
  span = p.span;
}

-- the grammar of the kept rules, tokens and productions
abbrev pub kept_grammar : {S : Type 0} → (S → ℕ) → List RulePart → List TokenPart → List (SplitProd S) → S → Grammar
kept_grammar index rules tokens prods start = record {
  rules = added_rule ∷ map rule_name_of rules;
  tokens = map token_name_of tokens;
  prods = map (split_prod_of index) prods;
  start = index start;
}

-- for each rule r below `rules`, row r has the productions of rule r
pub record AreRowsOf {S : Type 0} (index : S → ℕ) (rules : ℕ) (prods : List Production) (rows : List (Vec (PIdx S) Global)) : Type 0 where
  pub len : length rows ≡ rules
  pub each : (r : ℕ) (d : Vec (PIdx S) Global) → r < rules → prod_numbers index (slice_index_or rows r d).items ≡ prods_from r 0 prods

-- the grammar is well formed, its numbers fit the storage type, and the rows have the productions of each rule
pub record IsKept {S : Type 0} (limit : ℕ) (index : S → ℕ) (g : Grammar) (rows : List (Vec (PIdx S) Global)) : Type 0 where
  pub well_formed : IsWellFormed g
  pub rules : rules_len g ≤ limit
  pub tokens : tokens_len g ≤ limit
  pub prods : prods_len g ≤ limit
  pub by_rule : AreRowsOf index (rules_len g) g.prods rows

-- the production is kept as this
abbrev pub IsSplit : {S : Type 0} → (S → ℕ) → ProdPart S → SplitProd S → Type 0
IsSplit index part prod = split_prod_of index prod ≡ prod_of index part

-- this is the start production, which derives that rule
abbrev pub IsAddedProd : {S : Type 0} → (S → ℕ) → RIdx S → SplitProd S → Type 0
IsAddedProd index start prod = split_prod_of index prod ≡ added_prod (index start.0)

-- the productions are kept as these, and the start production after them
abbrev pub AreSplit : {S A : Type 0} → (S → ℕ) → List (ProdPart S) → RIdx S → Vec (SplitProd S) A → Type 0
AreSplit index parts start prods = map (split_prod_of index) prods.items ≡ map (prod_of index) parts ++ added_prod (index start.0) ∷ []

-- the rule of each production is below `rules`
abbrev pub HaveRulesBelow : {S : Type 0} → (S → ℕ) → ℕ → List (SplitProd S) → Type 0
HaveRulesBelow index rules prods = All (λ p. p.rule < rules) (map (split_prod_of index) prods)

-- for each rule r below `rules`, row r has those of these productions that are of rule r
abbrev pub HasRowsOf : {S : Type 0} → (S → ℕ) → ℕ → List (SplitProd S) → Vec (Vec (PIdx S) Global) Global → Type 0
HasRowsOf index rules prods rows = AreRowsOf index rules (map (split_prod_of index) prods) rows.items

-- there is an empty row for each rule below `rules`
abbrev pub HasEmptyRows : {S : Type 0} → (S → ℕ) → ℕ → Vec (Vec (PIdx S) Global) Global → Type 0
HasEmptyRows index rules rows = AreRowsOf index rules [] rows.items

-- the grammar's production is kept as this
abbrev pub IsKeptProd : {S : Type 0} → (S → ℕ) → Grammar → PIdx S → SplitProd S → Type 0
IsKeptProd index g pidx prod = slice_get g.prods (index pidx.0) ≡ Some (split_prod_of index prod)

-- the places of the production fit the text
abbrev pub ProdFits : {S : Type 0} → (S → ℕ) → List ℕ → SplitProd S → Type 0
ProdFits index src prod = ProductionFits src (split_prod_of index prod)

-- the places of each production fit the text
abbrev pub ProdsFit : {S : Type 0} → (S → ℕ) → List ℕ → List (SplitProd S) → Type 0
ProdsFit index src prods = All (λ prod. ProductionFits src (split_prod_of index prod)) prods
