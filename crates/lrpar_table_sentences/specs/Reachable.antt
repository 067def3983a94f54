-- The reachable rules of a grammar, and the unproductive ones among them.
use Rattle.std.specs.Prelude.{◌≡◌, ◌<◌, ◌↔◌, ℕ, Bool, Contains, IsTrue, List, MatchOption, Option, count_by, false, length, not, slice_index_or}
use Rattle.std.specs.declared.vec.Vec.{Vec}
use Rattle.lrpar_grammar_places.specs.declared.span.RIdx.{RIdx}
use Rattle.lrpar_grammar_places.specs.declared.span.Symbol.{Symbol}
use Rattle.lrpar_grammar.specs.Grammar.{Grammar, GrammarSymbol, Nonterminal, Terminal, prods_len, rule_of, rules_len, symbols_of}
use Rattle.lrpar_grammar.specs.Symbols.{symbol_of}
use Rattle.lrpar_grammar.specs.Tree.{Tree}
use Rattle.lrpar_table_sentences.specs.Texts.{IsTreeOf}

-- the least set of rules that has the added rule and, with a rule, each rule on the right side of one of its productions
pub data IsReachableRule (g : Grammar) : ℕ → Type 0 where
  Added : IsReachableRule g 0
  OnRight : (p r : ℕ) → p < prods_len g → IsReachableRule g (rule_of g p) → Contains (symbols_of g p) (Nonterminal r) → IsReachableRule g r

-- a token, or a reachable rule
abbrev pub IsReachableSymbol : Grammar → GrammarSymbol → Type 0
IsReachableSymbol g (Nonterminal r) = IsReachableRule g r
IsReachableSymbol g (Terminal t) = Unit {0}

-- the rule has a tree: it is productive
abbrev pub HasTree : Grammar → ℕ → Type 0
HasTree g r = (tree : Tree ℕ) × IsTreeOf g (Nonterminal r) tree

-- each reachable rule is productive
abbrev pub EachReachableHasTree : Grammar → Type 0
EachReachableHasTree g = (r : ℕ) → IsReachableRule g r → HasTree g r

-- rule r is reachable, and unproductive
pub record IsUnproductive (g : Grammar) (r : ℕ) : Type 0 where
  pub reached : IsReachableRule g r
  pub none : ¬ (HasTree g r)

-- rule r is the first rule that is reachable and unproductive
pub record IsFirstUnproductive (g : Grammar) (r : ℕ) : Type 0 where
  pub unproductive : IsUnproductive g r
  pub first : (other : ℕ) → other < r → IsReachableRule g other → HasTree g other

-- this is the first rule that is reachable and unproductive; none if each reachable rule is productive
abbrev pub IsFirstUnproductiveIfAny : {S : Type 0} → (S → ℕ) → Grammar → Option (RIdx S) → Type 0
IsFirstUnproductiveIfAny index g found = MatchOption found (EachReachableHasTree g) (λ rule. IsFirstUnproductive g (index rule.0))

-- whether rule r is marked; out of range, it isn't
abbrev pub is_marked : List Bool → ℕ → Bool
is_marked marks r = slice_index_or marks r false

-- a token, or a rule that is marked
abbrev pub IsMarkedSymbol : List Bool → GrammarSymbol → Type 0
IsMarkedSymbol marks (Nonterminal r) = IsTrue (is_marked marks r)
IsMarkedSymbol marks (Terminal t) = Unit {0}

-- marks of a grammar's rules: the added rule is marked, and only reachable rules are
pub record AreMarked (g : Grammar) (marks : List Bool) : Type 0 where
  pub rules : length marks ≡ rules_len g
  pub added : IsTrue (is_marked marks 0)
  pub reached : (r : ℕ) → IsTrue (is_marked marks r) → IsReachableRule g r

-- if the rule of production p is marked, so is each rule on its right side
abbrev pub MarksOn : Grammar → List Bool → ℕ → Type 0
MarksOn g marks p = IsTrue (is_marked marks (rule_of g p)) → (s : GrammarSymbol) → Contains (symbols_of g p) s → IsMarkedSymbol marks s

-- the reachable rules are marked, and no others
pub record AreAllMarked (g : Grammar) (marks : List Bool) : Type 0 where
  pub rules : length marks ≡ rules_len g
  pub exact : (r : ℕ) → IsTrue (is_marked marks r) ↔ IsReachableRule g r

-- the reachable rules are marked in a list of the code, and no others
abbrev pub HasAllMarks : {A : Type 0} → Grammar → Vec Bool A → Type 0
HasAllMarks g = λ marks. AreAllMarked g marks.items

-- whether a rule of the code is marked
abbrev pub has_mark : {S : Type 0} → (S → ℕ) → List Bool → RIdx S → Bool
has_mark index marks rule = is_marked marks (index rule.0)

-- in each grammar whose reachable rules are marked, the answer is true exactly if the rule is reachable
abbrev pub DecidesReach : {S : Type 0} → (S → ℕ) → List Bool → RIdx S → Bool → Type 0
DecidesReach index marks rule answer = (g : Grammar) → AreAllMarked g marks → IsTrue answer ↔ IsReachableRule g (index rule.0)

-- how many rules aren't marked
abbrev pub unmarked : List Bool → ℕ
unmarked marks = count_by not marks

-- fewer rules aren't marked than before
abbrev pub MarksMore : List Bool → List Bool → Type 0
MarksMore old new = unmarked new < unmarked old

-- for each production: if its rule is marked, so is each rule on its right side
abbrev pub AreClosed : Grammar → List Bool → Type 0
AreClosed g marks = (p : ℕ) → p < prods_len g → MarksOn g marks p

-- if the symbol is a rule, there is a mark for it
abbrev pub HasMarkFor : {S : Type 0} → (S → ℕ) → List Bool → Symbol S → Type 0
HasMarkFor index marks symbol = (r : ℕ) → symbol_of index symbol ≡ Nonterminal r → r < length marks

-- in each grammar in which the symbol is reachable, the marks stay right
abbrev pub StayMarks : {S : Type 0} → (S → ℕ) → Symbol S → List Bool → List Bool → Type 0
StayMarks index symbol old new = (g : Grammar) → AreMarked g old → IsReachableSymbol g (symbol_of index symbol) → AreMarked g new
