-- Lengths as they are worked out: sums that stop at a number, and the least one that is open.
use Rattle.std.specs.Prelude.{◌≡◌, ◌<◌, ◌≤◌, ◌+◌, ℕ, List, [], ◌∷◌, MatchOption, Option, Some, None, count_by, map, min, option_map}
use Rattle.std.specs.Option.{is_none}
use Rattle.std.below.core.specs.declared.int.usize.TheConstants.{MAX}
use Rattle.lrpar_grammar_places.specs.declared.span.PIdx.{PIdx}
use Rattle.lrpar_grammar_places.specs.declared.span.Symbol.{Symbol}
use Rattle.lrpar_grammar.specs.Grammar.{Grammar, GrammarSymbol, Nonterminal, Terminal, prods_len, rule_of, symbols_of}
use Rattle.lrpar_grammar.specs.Symbols.{symbol_of}
use Rattle.lrpar_grammar.specs.Tree.{Tree}
use Rattle.lrpar_table_sentences.specs.Choices.{ChoiceOf, choice_at, choices_of}
use Rattle.lrpar_table_sentences.specs.Texts.{IsTreeOf, width}
use Rattle.lrpar_table_sentences.specs.declared.minimal_sentences.Choice.{Choice}

-- the sum of two numbers, capped at `most`, if there are both
abbrev pub added : ℕ → Option ℕ → Option ℕ → Option ℕ
added most (Some a) (Some b) = Some (min (a + b) most)
added most (Some a) None = None
added most None b = None

-- the lesser of two numbers, or the only one
abbrev pub lesser_of : Option ℕ → Option ℕ → Option ℕ
lesser_of (Some a) (Some b) = Some (min a b)
lesser_of (Some a) None = Some a
lesser_of None b = b

-- the length of a symbol: one for a token, and what is kept of a rule
abbrev pub len_at : List (Option ChoiceOf) → GrammarSymbol → Option ℕ
len_at choices (Terminal t) = Some 1
len_at choices (Nonterminal r) = option_map (λ x. x.len) (choice_at choices r)

-- the length of symbols
abbrev pub sum_of_lens : ℕ → List (Option ChoiceOf) → List GrammarSymbol → Option ℕ
sum_of_lens most choices [] = Some 0
sum_of_lens most choices (s ∷ ss) = added most (len_at choices s) (sum_of_lens most choices ss)

-- the length of a symbol of the code, and that of symbols, capped at `usize::MAX`
abbrev pub len_by : {S : Type 0} → (S → ℕ) → List (Option ChoiceOf) → Symbol S → Option ℕ
len_by index choices symbol = len_at choices (symbol_of index symbol)

abbrev pub len_by_all : {S : Type 0} → (S → ℕ) → List (Option ChoiceOf) → List (Symbol S) → Option ℕ
len_by_all index choices symbols = sum_of_lens MAX choices (map (symbol_of index) symbols)

-- the number, if nothing is kept
abbrev pub unless_some : Option ChoiceOf → Option ℕ → Option ℕ
unless_some (Some x) len = None
unless_some None len = len

-- the length of a production whose rule has nothing kept yet
abbrev pub open_len : Grammar → ℕ → List (Option ChoiceOf) → ℕ → Option ℕ
open_len g most choices p = unless_some (choice_at choices (rule_of g p)) (sum_of_lens most choices (symbols_of g p))

-- no production is open
abbrev pub NoneIsOpen : Grammar → ℕ → List (Option ChoiceOf) → Type 0
NoneIsOpen g most choices = (p : ℕ) → p < prods_len g → open_len g most choices p ≡ None

-- some open production has the length
abbrev pub HasOpen : Grammar → ℕ → List (Option ChoiceOf) → ℕ → Type 0
HasOpen g most choices len = (p : ℕ) × (p < prods_len g) × (open_len g most choices p ≡ Some len)

-- no open production has less than this length
abbrev pub NoneIsLess : Grammar → ℕ → List (Option ChoiceOf) → ℕ → Type 0
NoneIsLess g most choices len = (p other : ℕ) → p < prods_len g → open_len g most choices p ≡ Some other → len ≤ other

-- no tree of a rule with nothing kept has fewer tokens
abbrev pub NoneIsBelow : Grammar → List (Option ChoiceOf) → ℕ → Type 0
NoneIsBelow g choices len = (r : ℕ) (tree : Tree ℕ) → choice_at choices r ≡ None → IsTreeOf g (Nonterminal r) tree → len ≤ width tree

-- how many rules have nothing kept
abbrev pub open_in : List (Option ChoiceOf) → ℕ
open_in choices = count_by is_none choices

-- the length of a symbol, of symbols, and of a production that is open, by what the code keeps, capped at `usize::MAX`
abbrev pub symbol_len : {S : Type 0} → (S → ℕ) → List (Option (Choice S)) → Symbol S → Option ℕ
symbol_len index choices symbol = len_at (choices_of index choices) (symbol_of index symbol)

abbrev pub symbols_len : {S : Type 0} → (S → ℕ) → List (Option (Choice S)) → List (Symbol S) → Option ℕ
symbols_len index choices symbols = sum_of_lens MAX (choices_of index choices) (map (symbol_of index) symbols)

abbrev pub open_prod_len : {S : Type 0} → (S → ℕ) → Grammar → List (Option (Choice S)) → PIdx S → Option ℕ
open_prod_len index g choices prod = open_len g MAX (choices_of index choices) (index prod.0)

-- the least length of an open production, if there is one
abbrev pub IsLeastOpen : {S : Type 0} → (S → ℕ) → Grammar → List (Option (Choice S)) → Option ℕ → Type 0
IsLeastOpen index g choices least =
    MatchOption least (NoneIsOpen g MAX (choices_of index choices))
    (λ len. HasOpen g MAX (choices_of index choices) len × NoneIsLess g MAX (choices_of index choices) len)

-- if some open production has the length, fewer rules have nothing kept than before
abbrev pub LeavesFewerOpen : {S : Type 0} → (S → ℕ) → Grammar → List (Option (Choice S)) → List (Option (Choice S)) → ℕ → Type 0
LeavesFewerOpen index g old new len = HasOpen g MAX (choices_of index old) len → open_in (choices_of index new) < open_in (choices_of index old)
