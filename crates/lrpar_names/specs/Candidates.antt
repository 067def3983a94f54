-- The rules with which an item of a state can go on.
use Rattle.std.specs.Prelude.{◌≡◌, ◌==◌, ◌||◌, ◌↔◌, ℕ, Bool, List, [], ◌∷◌, Contains, IsTrue, None, Option, Some, drop, option_map}
use Rattle.lrpar_grammar_places.specs.declared.span.PIdx.{PIdx}
use Rattle.lrpar_grammar_places.specs.declared.span.RIdx.{RIdx}
use Rattle.lrpar_grammar_places.specs.declared.span.StIdx.{StIdx}
use Rattle.lrpar_grammar.specs.Grammar.{Grammar, GrammarSymbol, Nonterminal, Terminal, symbols_of}
use Rattle.lrpar_grammar.specs.Tokens.{has}
use Rattle.lrpar_table_rows.specs.Graph.{Graph, HasCore}
use Rattle.lrpar_names.specs.Choosing.{rule_numbers}

-- the rule that is the first of the symbols, if that is a rule
abbrev pub leading_rule : List GrammarSymbol → Option ℕ
leading_rule [] = None
leading_rule (Nonterminal r ∷ w) = Some r
leading_rule (Terminal t ∷ w) = None

-- the rule after the first k symbols of production p, if a rule is there: r in `A: u . r w`
abbrev pub next_rule : Grammar → ℕ → ℕ → Option ℕ
next_rule g p k = leading_rule (drop k (symbols_of g p))

-- rule r is after the dot of an item of state s
abbrev pub IsNextIn : Grammar → Graph → ℕ → ℕ → Type 0
IsNextIn g graph s r = (p : ℕ) × (k : ℕ) × HasCore graph s p k × (next_rule g p k ≡ Some r)

-- rule r is after the dot of one of these cores
abbrev pub IsNextOf : Grammar → List (ℕ × ℕ) → ℕ → Type 0
IsNextOf g cores r = (p : ℕ) × (k : ℕ) × Contains cores (p, k) × (next_rule g p k ≡ Some r)

-- the mark of rule r was set
abbrev pub Marks : List Bool → List Bool → ℕ → Type 0
Marks old new r = (q : ℕ) → has new q ≡ (has old q || q == r)

-- the marked rules are those after the dots of these cores
abbrev pub AreMarksOf : Grammar → List (ℕ × ℕ) → List Bool → Type 0
AreMarksOf g cores marks = (r : ℕ) → IsTrue (has marks r) ↔ IsNextOf g cores r

module _ {S : Type 0} (index : S → ℕ) (g : Grammar) where
  -- this is the rule after the dot of the core, if a rule is there
  abbrev pub FindsNext : PIdx S → ℕ → Option (RIdx S) → Type 0
  FindsNext prod dot found = option_map (λ rule. index rule.0) found ≡ next_rule g (index prod.0) dot

  -- these are the rules after the dots of the state's items
  abbrev pub AreCandidates : Graph → StIdx S → List (RIdx S) → Type 0
  AreCandidates graph s rules = (r : ℕ) → Contains (rule_numbers index rules) r ↔ IsNextIn g graph (index s.0) r
