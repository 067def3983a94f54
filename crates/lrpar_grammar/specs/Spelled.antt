-- Productions as texts: which text spells which production, and lists in which each production is spelled once.
use Rattle.std.specs.Prelude.{◌≡◌, ◌<◌, ◌+◌, ◌&&◌, ℕ, Bool, true, false, List, [], ◌∷◌, ◌++◌, drop, length, map, take, bytes_eq, count_by, if◌then◌else◌, slice_index_or, Option, Some, None, option_map, option_and_then, Vec}
use Rattle.std.specs.List.{range_with_len}
use Rattle.lrpar_grammar_places.specs.declared.span.PIdx.{PIdx}
use Rattle.lrpar_grammar_words.specs.declared.words.WordKind.{WordKind}
use Rattle.lrpar_grammar_words.specs.declared.words.WordKind.TheVariants.{Name, Quoted, Colon}
use Rattle.lrpar_grammar_words.specs.Words.{PlacedWord, ReadsAs}
use Rattle.lrpar_grammar_reader.specs.Grammar.{Grammar, GrammarSymbol, Nonterminal, Terminal, rule_of, rules_len, start_prod, symbols_of}

-- the names of all symbols by their numbers, and how many of these are rules: rules come first, then tokens
pub record NamedSymbols : Type 0 where
  pub rules : ℕ
  pub names : List (List ℕ)

-- the names of a grammar's rules and tokens
abbrev pub named_symbols : Grammar → NamedSymbols
named_symbols g = record { rules = rules_len g; names = map (λ x. x.name) g.rules ++ map (λ x. x.name) g.tokens }

-- a symbol's number among all symbols
abbrev pub symbol_number : ℕ → GrammarSymbol → ℕ
symbol_number rules (Nonterminal r) = r
symbol_number rules (Terminal t) = rules + t

-- a production as numbers of symbols: its rule, and then its right side
abbrev pub numbers_of : Grammar → ℕ → List ℕ
numbers_of g p = rule_of g p ∷ map (symbol_number (rules_len g)) (symbols_of g p)

-- the productions other than the start production, as numbers of symbols
abbrev pub numbered_prods : Grammar → List (List ℕ)
numbered_prods g = map (numbers_of g) (range_with_len 0 (start_prod g))

-- the number of the first of these names that is the name, if the first of them has the number n
abbrev pub first_number : ℕ → List (List ℕ) → List ℕ → Option ℕ
first_number n [] name = None
first_number n (x ∷ xs) name = if bytes_eq x name then Some n else first_number (n + 1) xs name

-- The number of the symbol that a word names. An unquoted name is that of a rule or, if no rule has it, of a token; a quoted
-- name is that of a token.
abbrev pub number_named : NamedSymbols → WordKind → List ℕ → Option ℕ
number_named n Name name = first_number 0 n.names name
number_named n Quoted name = first_number n.rules (drop n.rules n.names) name
number_named n _ name = None

-- the numbers of the symbols that the words name, if each names one
abbrev pub numbers_named : NamedSymbols → List PlacedWord → Option (List ℕ)
numbers_named n [] = Some []
numbers_named n (w ∷ ws) = option_and_then (λ k. option_map (λ ks. k ∷ ks) (numbers_named n ws)) (number_named n w.kind w.name)

-- an unquoted name
abbrev pub is_name : WordKind → Bool
is_name Name = true
is_name _ = false

-- a colon
abbrev pub is_colon : WordKind → Bool
is_colon Colon = true
is_colon _ = false

-- the numbers that words spell: an unquoted name, a colon, and names
abbrev pub numbers_spelled : NamedSymbols → List PlacedWord → Option (List ℕ)
numbers_spelled n (rule ∷ (colon ∷ symbols)) = if is_name rule.kind && is_colon colon.kind then numbers_named n (rule ∷ symbols) else None
numbers_spelled n _ = None

-- the text spells a production with these numbers
pub record SpellsNumbers (n : NamedSymbols) (text numbers : List ℕ) : Type 0 where
  pub words : List PlacedWord
  pub reads : ReadsAs text words
  pub spelled : numbers_spelled n words ≡ Some numbers

-- each text spells a production with the numbers at its place in the second list
abbrev pub SpellEach : NamedSymbols → List (List ℕ) → List (List ℕ) → Type 0
SpellEach n [] [] = Unit {0}
SpellEach n [] (x ∷ xs) = ⊥
SpellEach n (text ∷ texts) [] = ⊥
SpellEach n (text ∷ texts) (x ∷ xs) = SpellsNumbers n text x × SpellEach n texts xs

-- the member of a list of productions or texts, as numbers
abbrev pub numbers_at : List (List ℕ) → ℕ → List ℕ
numbers_at xs i = slice_index_or xs i []

-- how many members of the list are this
abbrev pub count_of : List ℕ → List (List ℕ) → ℕ
count_of x xs = count_by (λ y. bytes_eq x y) xs

-- Text t spells production p, and as many earlier texts spell it as earlier productions are spelled so: of the texts that spell it,
-- the first is for the first such production, the second for the second.
pub record IsTextOf (prods texts : List (List ℕ)) (p t : ℕ) : Type 0 where
  pub within : t < length texts
  pub spells : numbers_at texts t ≡ numbers_at prods p
  pub nth : count_of (numbers_at prods p) (take t texts) ≡ count_of (numbers_at prods p) (take p prods)

-- the production has a text
abbrev pub HasText : List (List ℕ) → List (List ℕ) → ℕ → Type 0
HasText prods texts p = (t : ℕ) × IsTextOf prods texts p t

-- the text is of a production
abbrev pub HasProduction : List (List ℕ) → List (List ℕ) → ℕ → Type 0
HasProduction prods texts t = (p : ℕ) × (p < length prods) × IsTextOf prods texts p t

-- production p has its text at this place
pub record GoesTo (prods texts : List (List ℕ)) (places : List (Option ℕ)) (p : ℕ) : Type 0 where
  pub place : ℕ
  pub at : slice_index_or places p None ≡ Some place
  pub is : IsTextOf prods texts p place

-- text t is the text at the place of some production
pub record IsTextOfSome (prods : List (List ℕ)) (places : List (Option ℕ)) (t : ℕ) : Type 0 where
  pub prod : ℕ
  pub within : prod < length prods
  pub at : slice_index_or places prod None ≡ Some t

-- The texts list the productions: each text spells a production, each production but the start production has its text at its
-- place, and each text is at the place of one.
pub record IsListing (g : Grammar) (texts : List (List ℕ)) (places : List (Option ℕ)) : Type 0 where
  pub spelled : List (List ℕ)
  pub spell : SpellEach (named_symbols g) texts spelled
  pub len : length places ≡ start_prod g
  pub each_prod : (p : ℕ) → p < start_prod g → GoesTo (numbered_prods g) spelled places p
  pub each_text : (t : ℕ) → t < length texts → IsTextOfSome (numbered_prods g) places t

-- these are the numbers of the production
abbrev pub AreProdNumbers : {S A : Type 0} → (S → ℕ) → Grammar → PIdx S → Vec ℕ A → Type 0
AreProdNumbers index g prod numbers = numbers.items ≡ numbers_of g (index prod.0)

-- these are the productions other than the start production, as numbers of symbols
abbrev pub AreNumberedProds : {A : Type 0} → Grammar → List (Vec ℕ A) → Type 0
AreNumberedProds g prods = map (λ numbers. numbers.items) prods ≡ numbered_prods g
