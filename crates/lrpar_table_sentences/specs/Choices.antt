-- What is kept of each productive rule: the length of its minimal sentences, and the production that the tree of one begins with.
use Rattle.std.specs.Prelude.{◌≡◌, ◌<◌, ◌≤◌, ◌↔◌, ℕ, Bool, IsTrue, List, [], ◌∷◌, Option, Some, None, length, map, min, option_map, slice_index_or}
use Rattle.std.specs.Option.{is_some}
use Rattle.std.below.core.specs.declared.int.usize.TheConstants.{MAX}
use Rattle.lrpar_grammar_places.specs.declared.span.RIdx.{RIdx}
use Rattle.lrpar_grammar_places.specs.declared.span.Symbol.{Symbol}
use Rattle.lrpar_grammar.specs.Grammar.{Grammar, GrammarSymbol, Nonterminal, Terminal, prods_len, rule_of, rules_len, symbols_of}
use Rattle.lrpar_grammar.specs.Symbols.{symbol_of}
use Rattle.lrpar_grammar.specs.Tree.{Tree, Forest, Leaf, Branch, Nil, Cons}
use Rattle.lrpar_table_sentences.specs.Reachable.{HasTree}
use Rattle.lrpar_table_sentences.specs.Texts.{IsShortestIfAny, IsTreeOf, width}
use Rattle.lrpar_table_sentences.specs.declared.minimal_sentences.Choice.{Choice}

-- a number of tokens, and a production
pub record ChoiceOf : Type 0 where
  pub len : ℕ
  pub prod : ℕ

-- choices as they are stored, with numbers for their productions
abbrev pub choice_of : {S : Type 0} → (S → ℕ) → Choice S → ChoiceOf
choice_of index x = record { len = x.len; prod = index x.prod.0 }

abbrev pub choices_of : {S : Type 0} → (S → ℕ) → List (Option (Choice S)) → List (Option ChoiceOf)
choices_of index choices = map (option_map (choice_of index)) choices

-- what is kept of rule r; out of range, nothing
abbrev pub choice_at : List (Option ChoiceOf) → ℕ → Option ChoiceOf
choice_at choices r = slice_index_or choices r None

-- the production that is kept of rule r
abbrev pub prod_at : List (Option ChoiceOf) → ℕ → Option ℕ
prod_at choices r = option_map (λ x. x.prod) (choice_at choices r)

-- a tree of the symbol, each of whose nodes has the production that is kept of its rule
abbrev mutual
  pub Follows : Grammar → List (Option ChoiceOf) → Tree ℕ → GrammarSymbol → Type 0
  Follows g choices (Leaf x) (Terminal t) = x ≡ t
  Follows g choices (Leaf x) (Nonterminal r) = ⊥
  Follows g choices (Branch p children) (Nonterminal r) = (prod_at choices r ≡ Some p) × ForestFollows g choices children (symbols_of g p)
  Follows g choices (Branch p children) (Terminal t) = ⊥

  pub ForestFollows : Grammar → List (Option ChoiceOf) → Forest ℕ → List GrammarSymbol → Type 0
  ForestFollows g choices Nil [] = Unit {0}
  ForestFollows g choices Nil (s ∷ ss) = ⊥
  ForestFollows g choices (Cons t ts) [] = ⊥
  ForestFollows g choices (Cons t ts) (s ∷ ss) = Follows g choices t s × ForestFollows g choices ts ss

-- what is kept of rules is right as far as it goes: each production is one of its rule's own; no tree of the rule has fewer
-- tokens than the length; and one of the productions that are kept has this number of tokens, capped at `most`
pub record AreRight (g : Grammar) (most : ℕ) (choices : List (Option ChoiceOf)) : Type 0 where
  pub rules : length choices ≡ rules_len g
  pub own : (r : ℕ) (x : ChoiceOf) → choice_at choices r ≡ Some x → (x.prod < prods_len g) × (rule_of g x.prod ≡ r)
  pub least : (r : ℕ) (x : ChoiceOf) → choice_at choices r ≡ Some x → (tree : Tree ℕ) → IsTreeOf g (Nonterminal r) tree → x.len ≤ width tree
  pub trees : (r : ℕ) (x : ChoiceOf) → choice_at choices r ≡ Some x
      → (tree : Tree ℕ) × Follows g choices tree (Nonterminal r) × (min (width tree) most ≡ x.len)

-- what is kept of rules is right, and something is kept of each rule that has a tree
pub record AreShortest (g : Grammar) (most : ℕ) (choices : List (Option ChoiceOf)) : Type 0 where
  pub right : AreRight g most choices
  pub all : (r : ℕ) → choice_at choices r ≡ None → (tree : Tree ℕ) → ¬ (IsTreeOf g (Nonterminal r) tree)

-- what is kept is right, with numbers of tokens capped at `usize::MAX`, and something is kept of each rule that has a tree
abbrev pub AreShortestOf : Grammar → List (Option ChoiceOf) → Type 0
AreShortestOf g = λ choices. AreShortest g MAX choices

-- in each grammar of which the choices are kept, this is the length of the symbols' minimal sentences, if there are any
abbrev pub IsMinimalLen : List (Option ChoiceOf) → List GrammarSymbol → Option ℕ → Type 0
IsMinimalLen choices symbols len = (g : Grammar) → AreShortest g MAX choices → IsShortestIfAny g MAX symbols len

-- in each grammar of which the choices are kept, this is the length of the minimal sentences of a symbol, or of symbols, as they are
-- stored, if there are any
abbrev pub IsLenOf : {S : Type 0} → (S → ℕ) → List (Option ChoiceOf) → Symbol S → Option ℕ → Type 0
IsLenOf index choices symbol len = IsMinimalLen choices (symbol_of index symbol ∷ []) len

abbrev pub IsLenOfAll : {S : Type 0} → (S → ℕ) → List (Option ChoiceOf) → List (Symbol S) → Option ℕ → Type 0
IsLenOfAll index choices symbols len = IsMinimalLen choices (map (symbol_of index) symbols) len

-- whether something is kept of a rule of the code
abbrev pub is_kept : {S : Type 0} → (S → ℕ) → List (Option ChoiceOf) → RIdx S → Bool
is_kept index choices rule = is_some (choice_at choices (index rule.0))

-- in each grammar of which the choices are kept, the answer is true exactly if the rule has a tree
abbrev pub DecidesTree : {S : Type 0} → (S → ℕ) → List (Option ChoiceOf) → RIdx S → Bool → Type 0
DecidesTree index choices rule answer = (g : Grammar) → AreShortest g MAX choices → IsTrue answer ↔ HasTree g (index rule.0)

-- what the code keeps of rules is right as far as it goes, with numbers of tokens capped at `usize::MAX`
abbrev pub RightSoFar : {S : Type 0} → (S → ℕ) → Grammar → List (Option (Choice S)) → Type 0
RightSoFar index g choices = AreRight g MAX (choices_of index choices)

-- what the code keeps of rules is right, and something is kept of each rule that has a tree
abbrev pub AreShortestKept : {S : Type 0} → (S → ℕ) → Grammar → List (Option (Choice S)) → Type 0
AreShortestKept index g choices = AreShortest g MAX (choices_of index choices)

-- this is what the code keeps of the rule; out of range, nothing
abbrev pub IsChoiceFor : {S : Type 0} → (S → ℕ) → List (Option (Choice S)) → RIdx S → Option (Choice S) → Type 0
IsChoiceFor index choices rule found = option_map (choice_of index) found ≡ choice_at (choices_of index choices) (index rule.0)
