-- Derivations by rewriting: sentential forms are lists of symbols, and a step rewrites one nonterminal of a form.
use Rattle.std.specs.Prelude.{◌≡◌, ◌<◌, ℕ, zero, suc, List, [], ◌∷◌, ◌++◌, map}
use Rattle.lrpar_grammar_reader.specs.Grammar.{Grammar, GrammarSymbol, Nonterminal, Terminal, prods_len, rule_of, symbols_of}
use Rattle.lrpar_grammar.specs.Tree.{Tree, Fits, leaves}

-- one step: at one place of the form, the rule of a production is replaced by its right side
pub record Rewrites (g : Grammar) (form next : List GrammarSymbol) : Type 0 where
  pub before : List GrammarSymbol
  pub prod : ℕ
  pub after : List GrammarSymbol
  pub known : prod < prods_len g
  pub from : form ≡ before ++ Nonterminal (rule_of g prod) ∷ after
  pub to : next ≡ before ++ symbols_of g prod ++ after

-- the second form is derived from the first in this many steps
abbrev pub DerivesIn : Grammar → ℕ → List GrammarSymbol → List GrammarSymbol → Type 0
DerivesIn g zero form last = form ≡ last
DerivesIn g (suc n) form last = (next : List GrammarSymbol) × Rewrites g form next × DerivesIn g n next last

-- the second form is derived from the first, in any number of steps
abbrev pub Derives : Grammar → List GrammarSymbol → List GrammarSymbol → Type 0
Derives g form last = (n : ℕ) × DerivesIn g n form last

-- the lexemes' tokens, as a sentential form
abbrev pub terminals : {X : Type 0} → (X → ℕ) → List X → List GrammarSymbol
terminals token lexemes = map (λ x. Terminal (token x)) lexemes

-- over lexemes of type X: the tokens of a tree's leaves are derived from the symbol that the tree fits
abbrev pub LeavesAreDerived : Type 0 → Type 0
LeavesAreDerived X =
    (token : X → ℕ) (g : Grammar) (s : GrammarSymbol) (tree : Tree X) → Fits token g tree s → Derives g (s ∷ []) (terminals token (leaves tree))

-- over lexemes of type X: if their tokens are derived from a symbol, the lexemes are the leaves of a tree that fits it
abbrev pub DerivedAreLeaves : Type 0 → Type 0
DerivedAreLeaves X =
    (token : X → ℕ) (g : Grammar) (s : GrammarSymbol) (lexemes : List X) → Derives g (s ∷ []) (terminals token lexemes)
    → (tree : Tree X) × Fits token g tree s × (leaves tree ≡ lexemes)
