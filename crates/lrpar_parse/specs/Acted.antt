-- Folds of a derivation tree by actions, which get the span of each node.
use Rattle.std.specs.Prelude.{◌≡◌, ℕ, List, [], ◌∷◌}
use Rattle.lrpar_grammar.specs.Grammar.{Grammar, rule_of}
use Rattle.lrpar_grammar.specs.Tree.{Tree, Forest, Leaf, Branch, Nil, Cons}
use Rattle.lrpar_grammar_places.specs.Span.{Extent, nowhere}
use Rattle.lrpar_parse_run.specs.Spans.{span_after}
use Rattle.lrpar_parse_run.specs.declared.values.AStackType.{AStackType}
use Rattle.lrpar_parse_run.specs.declared.values.AStackType.TheVariants.{ActionType, Lexeme}

-- `acts p span args v`: production p at this span has the value v over these arguments. A leaf folds to its lexeme, and an
-- inner node to a value of its production, at the node's span, over arguments to which its children fold.
abbrev mutual
  -- the tree, after the span `before`, folds to the argument
  pub ActedTo : {X V : Type 0} → (X → Extent) → (ℕ → Extent → List (AStackType X V) → V → Type 0) → Extent → Tree X → AStackType X V → Type 0
  ActedTo span acts before (Leaf x) arg = arg ≡ Lexeme x
  ActedTo {X} {V} span acts before (Branch p children) arg =
      (args : List (AStackType X V)) × (v : V) × (arg ≡ ActionType v) × AllActedTo span acts before children args
      × acts p (span_after span before (Branch p children)) args v

  -- trees side by side fold to arguments, place by place, each tree after its left neighbour
  pub AllActedTo : {X V : Type 0} → (X → Extent) → (ℕ → Extent → List (AStackType X V) → V → Type 0) → Extent → Forest X → List (AStackType X V) → Type 0
  AllActedTo span acts before Nil [] = Unit {0}
  AllActedTo span acts before Nil (arg ∷ args) = ⊥
  AllActedTo span acts before (Cons t ts) [] = ⊥
  AllActedTo span acts before (Cons t ts) (arg ∷ args) = ActedTo span acts before t arg × AllActedTo span acts (span_after span before t) ts args

-- the values that the actions may return for a production of the grammar, with this lexer and this parameter; `answers` says which values
-- they may return for a production and its rule
abbrev pub acts_by : {X V L P : Type 0} → (ℕ → ℕ → L → Extent → List (AStackType X V) → P → V → Type 0) → Grammar → L → P → ℕ → Extent → List (AStackType X V) → V → Type 0
acts_by answers g lexer param p span args v = answers p (rule_of g p) lexer span args param v

-- the tree, with nothing before it, folds to the value, which has the fact of the start rule
pub record IsActedValue {X V L P : Type 0} (span : X → Extent) (answers : ℕ → ℕ → L → Extent → List (AStackType X V) → P → V → Type 0) (fact : ℕ → V → Type 0) (g : Grammar) (lexer : L) (param : P) (tree : Tree X) (value : V) : Type 0 where
  pub folds : ActedTo span (acts_by answers g lexer param) nowhere tree (ActionType value)
  pub kept : fact g.start value
