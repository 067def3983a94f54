-- Context-free grammars as in Aho and Ullman, 'The Theory of Parsing, Translation, and Compiling', with names
-- and places. A grammar is augmented: the added rule, number 0, has one production, the last, which derives the start
-- rule; and the end token is added, with a number one past the others.
use Rattle.std.specs.Prelude.{◌≡◌, ◌==◌, if◌then◌else◌, ◌<◌, ◌+◌, ◌-◌, ℕ, List, [], ◌∷◌, length, All, slice_get, option_map, Option}
use Rattle.std.specs.Option.{option_map_or}
use Rattle.lrpar_grammar_places.specs.Span.{Extent, nowhere}

-- a symbol of a right side: a rule or a token, by its number
pub data GrammarSymbol : Type 0 where
  Nonterminal : (rule : ℕ) → GrammarSymbol
  Terminal : (token : ℕ) → GrammarSymbol

-- a rule's name, and the place where it is first defined
pub record RuleName : Type 0 where
  pub name : List ℕ
  pub span : Extent

-- a token's name, the text that messages print for it, and the place where it is first declared or used
pub record TokenName : Type 0 where
  pub name : List ℕ
  pub epp : List ℕ
  pub span : Extent

-- `rule` derives `symbols`; each symbol has a span, and the whole production has one
pub record Production : Type 0 where
  pub rule : ℕ
  pub symbols : List GrammarSymbol
  pub symbol_spans : List Extent
  pub span : Extent

-- the rules, the added one first; the tokens without the end token; the productions, the added one last; and the start
-- rule, which the added production derives
pub record Grammar : Type 0 where
  pub rules : List RuleName
  pub tokens : List TokenName
  pub prods : List Production
  pub start : ℕ

-- `^`, the added rule
abbrev pub added_rule : RuleName
added_rule = record { name = 94 ∷ []; span = nowhere }

-- `^ : S`, where S is the start rule
abbrev pub added_prod : ℕ → Production
added_prod start = record { rule = 0; symbols = Nonterminal start ∷ []; symbol_spans = nowhere ∷ []; span = nowhere }

-- the number of rules, with the added one
abbrev pub rules_len : Grammar → ℕ
rules_len g = length g.rules

-- the number of productions, with the added one
abbrev pub prods_len : Grammar → ℕ
prods_len g = length g.prods

-- the number of tokens, with the end token
abbrev pub tokens_len : Grammar → ℕ
tokens_len g = length g.tokens + 1

-- the number of the end token
abbrev pub end_token : Grammar → ℕ
end_token g = length g.tokens

-- the number of the added production, which is called the start production
abbrev pub start_prod : Grammar → ℕ
start_prod g = length g.prods - 1

-- the right side of a production
abbrev pub symbols_of : Grammar → ℕ → List GrammarSymbol
symbols_of g p = option_map_or (λ x. x.symbols) (slice_get g.prods p) []

-- the number of symbols on the right side of a production
abbrev pub prod_len : Grammar → ℕ → ℕ
prod_len g p = length (symbols_of g p)

-- the rule of a production
abbrev pub rule_of : Grammar → ℕ → ℕ
rule_of g p = option_map_or (λ x. x.rule) (slice_get g.prods p) 0

-- the span of each symbol of a production
abbrev pub symbol_spans_of : Grammar → ℕ → List Extent
symbol_spans_of g p = option_map_or (λ x. x.symbol_spans) (slice_get g.prods p) []

-- the span of a production
abbrev pub prod_span_of : Grammar → ℕ → Extent
prod_span_of g p = option_map_or (λ x. x.span) (slice_get g.prods p) nowhere

-- a rule's name
abbrev pub rule_name : Grammar → ℕ → List ℕ
rule_name g r = option_map_or (λ x. x.name) (slice_get g.rules r) []

-- the place where a rule is first defined
abbrev pub rule_span : Grammar → ℕ → Extent
rule_span g r = option_map_or (λ x. x.span) (slice_get g.rules r) nowhere

-- a token's name; the end token has none
abbrev pub token_name : Grammar → ℕ → Option (List ℕ)
token_name g t = option_map (λ x. x.name) (slice_get g.tokens t)

-- a token's printed text; the end token has none
abbrev pub token_epp : Grammar → ℕ → Option (List ℕ)
token_epp g t = option_map (λ x. x.epp) (slice_get g.tokens t)

-- the place where a token is first declared or used; the end token has none
abbrev pub token_span : Grammar → ℕ → Option Extent
token_span g t = option_map (λ x. x.span) (slice_get g.tokens t)

-- the productions of rule r among those from number p on, ascending
abbrev pub prods_from : ℕ → ℕ → List Production → List ℕ
prods_from r p [] = []
prods_from r p (x ∷ xs) = if x.rule == r then p ∷ prods_from r (p + 1) xs else prods_from r (p + 1) xs

-- the productions of a rule, ascending
abbrev pub prods_of : Grammar → ℕ → List ℕ
prods_of g r = prods_from r 0 g.prods

-- a symbol that a right side may have: a listed rule, or a token other than the end token
abbrev pub IsDeclaredSymbol : ℕ → ℕ → GrammarSymbol → Type 0
IsDeclaredSymbol rules tokens (Nonterminal r) = (0 < r) × (r < rules)
IsDeclaredSymbol rules tokens (Terminal t) = t < tokens

-- a production with a place for each symbol
abbrev pub HasSpans : Production → Type 0
HasSpans p = length p.symbol_spans ≡ length p.symbols

-- every number is in range; the last production is `^ : S`, and no other is of the added rule; no right side has that
-- rule or the end token; each symbol has its place
pub record IsWellFormed (g : Grammar) : Type 0 where
  pub start_added : 0 < g.start
  pub start_within : g.start < rules_len g
  pub last_rule : rule_of g (start_prod g) ≡ 0
  pub last_symbols : symbols_of g (start_prod g) ≡ Nonterminal g.start ∷ []
  pub rule_added : (p : ℕ) → p < start_prod g → 0 < rule_of g p
  pub rule_within : (p : ℕ) → p < start_prod g → rule_of g p < rules_len g
  pub symbols : (p : ℕ) → p < start_prod g → All (IsDeclaredSymbol (rules_len g) (end_token g)) (symbols_of g p)
  pub spans : (p : ℕ) → p < prods_len g → length (symbol_spans_of g p) ≡ prod_len g p
