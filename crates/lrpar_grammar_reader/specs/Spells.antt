-- The grammar that a text spells: numbers, names, printed texts and places by its declarations and rules, and the faults
-- that these can have. A number has no bound here.
use Rattle.std.specs.Prelude.{◌≡◌, ◌≢◌, ◌<◌, ◌≤◌, ◌+◌, ◌-◌, ◌||◌, not, ℕ, Bool, true, false, List, [], ◌++◌, length, map, filter, take, All, slice_get, slice_index_or, IsNone, Option, Some, option_map, unwrap_or, if◌then◌else◌}
use Rattle.std.specs.List.{find, flat_map}
use Rattle.std.specs.Option.{option_map_or, option_or}
use Rattle.lrpar_grammar_places.specs.Span.{Extent}
use Rattle.lrpar_grammar_words.specs.declared.words.WordKind.{WordKind}
use Rattle.lrpar_grammar_words.specs.declared.words.WordKind.TheVariants.{Quoted}
use Rattle.lrpar_grammar_words.specs.Words.{PlacedWord}
use Rattle.lrpar_grammar_words.specs.Outline.{IsOutlineOf, IsUnreadableAt, TextAlternative, TextOutline}
use Rattle.lrpar_grammar_reader.specs.declared.parts.GrammarFault.{GrammarFault}
use Rattle.lrpar_grammar_reader.specs.declared.parts.GrammarFault.TheVariants.{NoRules, StorageTooSmall, BadStart, BadSymbol, Syntax, UnknownRule, UnknownToken, TokenIsRule, RepeatedStart, RepeatedEpp, Memory}
use Rattle.lrpar_grammar_reader.specs.Grammar.{Grammar, GrammarSymbol, Nonterminal, Production, RuleName, Terminal, TokenName}
use Rattle.lrpar_grammar_reader.specs.Names.{first_of_each, is_among, number_of}
use Rattle.lrpar_grammar_reader.specs.Parts.{FitStorage, Parts, grammar_of}

-- a quoted word
abbrev pub is_quoted : WordKind → Bool
is_quoted Quoted = true
is_quoted _ = false

-- the rules: of each name the word that first defines it
abbrev pub rule_words : TextOutline → List PlacedWord
rule_words o = first_of_each o.defined

-- the declared tokens: of each name the word that first declares it
abbrev pub declared_words : TextOutline → List PlacedWord
declared_words o = first_of_each o.declared

-- a word is a token if it is quoted, or if its name is among the declared tokens
abbrev pub is_token : List PlacedWord → PlacedWord → Bool
is_token declared w = is_quoted w.kind || is_among w.name declared

-- the tokens that the alternatives use
abbrev pub used_tokens : List PlacedWord → List TextAlternative → List PlacedWord
used_tokens declared alternatives = flat_map (λ x. filter (is_token declared) x.symbols) alternatives

-- the tokens: of each name the word that first declares or uses it
abbrev pub token_words : TextOutline → List PlacedWord
token_words o = first_of_each (o.declared ++ used_tokens (declared_words o) o.alternatives)

-- the lists by which rules and tokens are numbered, and the list of the declared tokens
pub record Numbering : Type 0 where
  pub rules : List PlacedWord
  pub declared : List PlacedWord
  pub tokens : List PlacedWord

-- the numbering of an outline
abbrev pub numbering_of : TextOutline → Numbering
numbering_of o = record { rules = rule_words o; declared = declared_words o; tokens = token_words o }

-- the number of a rule; the added rule is number 0
abbrev pub rule_number : List PlacedWord → List ℕ → ℕ
rule_number rules name = option_map_or (λ n. n + 1) (number_of name rules) 0

-- the number of a token
abbrev pub token_number : List PlacedWord → List ℕ → ℕ
token_number tokens name = unwrap_or (number_of name tokens) 0

-- the symbol that a word of an alternative represents
abbrev pub symbol_of_word : Numbering → PlacedWord → GrammarSymbol
symbol_of_word n w = if is_token n.declared w then Terminal (token_number n.tokens w.name) else Nonterminal (rule_number n.rules w.name)

-- the part from the start of the first word to the end of the last
abbrev pub span_between : Option PlacedWord → Option PlacedWord → Extent → Extent
span_between (Some first) (Some last) nothing = record { start = first.span.start; end = last.span.end }
span_between _ _ nothing = nothing

-- the part from the first symbol to the last; without symbols, the empty part before the sign that ends the alternative
abbrev pub alternative_span : TextAlternative → Extent
alternative_span x =
    span_between (slice_get x.symbols 0) (slice_get x.symbols (length x.symbols - 1)) (record { start = x.end.span.start; end = x.end.span.start })

-- the text of the first `%epp` of a name, else the name
abbrev pub printed_text : TextOutline → List ℕ → List ℕ
printed_text o name = option_map_or (λ n. option_map_or (λ w. w.name) (slice_get o.epp_texts n) name) (number_of name o.epps) name

-- a rule as a grammar lists it
abbrev pub rule_of_word : PlacedWord → RuleName
rule_of_word w = record { name = w.name; span = w.span }

-- a token as a grammar lists it
abbrev pub token_of_word : TextOutline → PlacedWord → TokenName
token_of_word o w = record { name = w.name; epp = printed_text o w.name; span = w.span }

-- an alternative as a production
abbrev pub prod_of_alternative : Numbering → TextAlternative → Production
prod_of_alternative n x = record {
  rule = rule_number n.rules x.rule.name;
  symbols = map (symbol_of_word n) x.symbols;
  symbol_spans = map (λ w. w.span) x.symbols;
  span = alternative_span x;
}

-- the number of the rule after `%start`, else the number of the first rule
abbrev pub start_number : Numbering → List PlacedWord → ℕ
start_number n starts = option_map_or (λ w. rule_number n.rules w.name) (slice_get starts 0) 1

-- the parts of a grammar with these declarations and rules
abbrev pub spelled_parts : TextOutline → Parts
spelled_parts o = record {
  rules = map rule_of_word (rule_words o);
  tokens = map (token_of_word o) (token_words o);
  prods = map (prod_of_alternative (numbering_of o)) o.alternatives;
  start = start_number (numbering_of o) o.starts;
}

-- no word has the name of one before it
abbrev pub AreDistinct : List PlacedWord → Type 0
AreDistinct words = (k : ℕ) (d : PlacedWord) → k < length words → is_among (slice_index_or words k d).name (take k words) ≡ false

-- whether a symbol is a token or a rule
abbrev pub is_known : Numbering → PlacedWord → Bool
is_known n w = is_token n.declared w || is_among w.name n.rules

-- no rule has the name of a declared token, and each name that is used is the name of a rule or a token
pub record AreNamesKnown (n : Numbering) (o : TextOutline) : Type 0 where
  pub rules_undeclared : All (λ w. is_among w.name n.declared ≡ false) n.rules
  pub start_defined : All (λ w. is_among w.name n.rules ≡ true) o.starts
  pub symbols_known : All (λ x. All (λ w. is_known n w ≡ true) x.symbols) o.alternatives
  pub epps_known : All (λ w. is_among w.name n.tokens ≡ true) o.epps

-- the declarations and rules have none of the faults
pub record IsClean (o : TextOutline) : Type 0 where
  pub one_start : length o.starts ≤ 1
  pub one_epp_each : AreDistinct o.epps
  pub some_rule : o.defined ≢ []
  pub names_known : AreNamesKnown (numbering_of o) o

-- at most one start, and no second `%epp` of a name
pub record AreDeclaredOnce (o : TextOutline) : Type 0 where
  pub one_start : length o.starts ≤ 1
  pub one_epp_each : AreDistinct o.epps

-- the first rule that has the name of a declared token
abbrev pub token_rule : Numbering → Option PlacedWord
token_rule n = find (λ w. is_among w.name n.declared) n.rules

-- the first name after `%start` that is no rule, else the first symbol that is neither a token nor a rule
abbrev pub unknown_rule : Numbering → TextOutline → Option PlacedWord
unknown_rule n o =
    option_or (find (λ w. not (is_among w.name n.rules)) o.starts) (find (λ w. not (is_known n w)) (flat_map (λ x. x.symbols) o.alternatives))

-- the first word after `%epp` that is no token
abbrev pub unknown_token : Numbering → TextOutline → Option PlacedWord
unknown_token n o = find (λ w. not (is_among w.name n.tokens)) o.epps

-- there is such a word, and this is its place
abbrev pub LiesAt : Option PlacedWord → Extent → Type 0
LiesAt word span = option_map (λ w. w.span) word ≡ Some span

-- the first word that has the name of an earlier one is at this place
pub record IsRepeatedAt (words : List PlacedWord) (span : Extent) : Type 0 where
  pub word : PlacedWord
  pub place : ℕ
  pub found : slice_get words place ≡ Some word
  pub again : is_among word.name (take place words) ≡ true
  pub first : AreDistinct (take place words)
  pub at : word.span ≡ span

-- This is the first fault of the declarations and rules: it holds, this is the first place where it does, and the faults
-- before it don't hold. They are tested in the order of these lines. A failed allocation isn't one of them.
abbrev pub HasFaultBy : Numbering → TextOutline → GrammarFault → Type 0
HasFaultBy n o (RepeatedStart span) = LiesAt (slice_get o.starts 1) span
HasFaultBy n o (RepeatedEpp span) = (length o.starts ≤ 1) × IsRepeatedAt o.epps span
HasFaultBy n o NoRules = AreDeclaredOnce o × (o.defined ≡ [])
HasFaultBy n o (TokenIsRule span) = AreDeclaredOnce o × (o.defined ≢ []) × LiesAt (token_rule n) span
HasFaultBy n o (UnknownRule span) = AreDeclaredOnce o × (o.defined ≢ []) × IsNone (token_rule n) × LiesAt (unknown_rule n o) span
HasFaultBy n o (UnknownToken span) =
    AreDeclaredOnce o × (o.defined ≢ []) × IsNone (token_rule n) × IsNone (unknown_rule n o) × LiesAt (unknown_token n o) span
HasFaultBy n o (Syntax place) = ⊥
HasFaultBy n o BadSymbol = ⊥
HasFaultBy n o BadStart = ⊥
HasFaultBy n o StorageTooSmall = ⊥
HasFaultBy n o Memory = Unit {0}

-- this is the first fault of the outline's declarations and rules, by the outline's own numbers
abbrev pub HasFault : TextOutline → GrammarFault → Type 0
HasFault o fault = HasFaultBy (numbering_of o) o fault

-- The text spells the grammar: it has an outline, the outline has none of the faults, and the grammar is that of its
-- declarations and rules.
pub record Spells (text : List ℕ) (g : Grammar) : Type 0 where
  pub outline : TextOutline
  pub reads : IsOutlineOf text outline
  pub clean : IsClean outline
  pub is : g ≡ grammar_of (spelled_parts outline)

-- a text spells at most one grammar
abbrev pub SpellsOne : Type 0
SpellsOne = (text : List ℕ) (g h : Grammar) → Spells text g → Spells text h → g ≡ h

-- the text spells a grammar with more rules, productions or tokens than a storage type numbers
pub record SpellsTooMany (limit : ℕ) (text : List ℕ) : Type 0 where
  pub outline : TextOutline
  pub reads : IsOutlineOf text outline
  pub clean : IsClean outline
  pub many : FitStorage limit (spelled_parts outline) → ⊥

-- the text has an outline, and this is its first fault
pub record ReadsWithFault (text : List ℕ) (fault : GrammarFault) : Type 0 where
  pub outline : TextOutline
  pub reads : IsOutlineOf text outline
  pub has : HasFault outline fault

-- Why a text gives no grammar. `Syntax`: it has no outline, and reading it is stuck at this place. `StorageTooSmall`: the
-- storage type is too small for the grammar that it spells. `Memory`: an allocation failed. Any other: this is the first
-- fault of its declarations and rules.
abbrev pub IsGrammarFaultOf : ℕ → List ℕ → GrammarFault → Type 0
IsGrammarFaultOf limit text (Syntax place) = IsUnreadableAt text place
IsGrammarFaultOf limit text StorageTooSmall = SpellsTooMany limit text
IsGrammarFaultOf limit text Memory = Unit {0}
IsGrammarFaultOf limit text fault = ReadsWithFault text fault

-- the text can't be read on from this place, or an allocation failed
abbrev pub IsOutlineFault : List ℕ → GrammarFault → Type 0
IsOutlineFault text (Syntax place) = IsUnreadableAt text place
IsOutlineFault text Memory = Unit {0}
IsOutlineFault text _ = ⊥
