-- Operator grammars: one rule, whose productions are atoms, brackets and infix operators. Each text that has a tree which respects the
-- precedences is taken, with that tree, and it has no other such tree.
use Rattle.std.specs.Prelude.{◌≡◌, ◌≢◌, ◌<◌, ℕ, [], ◌∷◌, Some, slice_get}
use Rattle.lrpar_grammar.specs.Grammar.{Grammar, IsWellFormed, Nonterminal, Terminal, rule_of, start_prod, symbols_of}
use Rattle.lrpar_grammar.specs.Tree.{Tree, Fits, leaves, productions}
use Rattle.lrpar_table_precedence.specs.Precedence.{PrecedenceLists, prod_precedence, resolution_of, token_precedence}
use Rattle.lrpar_table_precedence.specs.declared.precedence.AssocKind.TheVariants.{Undeclared}
use Rattle.lrpar_table_precedence.specs.declared.precedence.Precedence.{Precedence}
use Rattle.lrpar_table_rows.specs.Graph.{Graph}
use Rattle.lrpar_table_rows.specs.Table.{IsClosed, Table}
use Rattle.lrpar_table_build.specs.Built.{IsBuiltBy}
use Rattle.lrpar_table_build.specs.KeptApart.{BeginsWithItsRule, EndsInItsRule, ReducesOrFails, ShiftsOrFails}
use Rattle.lrpar_table_check.specs.CompleteRuns.{RunsTo}
use Rattle.lrpar_table_stacks.specs.Run.{Accepted}
use Rattle.lrpar_parse_precedences.specs.PrecedenceTrees.{HasNoneFirst, HasNoneLast}

-- production p is an atom `R: a`; or brackets `R: l R c`; or infix, `R: R b R`, with the precedence of its operator b
pub data IsOperatorProd (g : Grammar) (precedences : PrecedenceLists) (p : ℕ) : Type 0 where
  IsAtom : (a : ℕ) → symbols_of g p ≡ Terminal a ∷ [] → IsOperatorProd g precedences p
  IsBrackets : (l c : ℕ) → symbols_of g p ≡ Terminal l ∷ Nonterminal g.start ∷ Terminal c ∷ [] → IsOperatorProd g precedences p
  IsInfix : (b : ℕ) (x : Precedence) → symbols_of g p ≡ Nonterminal g.start ∷ Terminal b ∷ Nonterminal g.start ∷ []
      → prod_precedence precedences p ≡ Some x → token_precedence precedences b ≡ Some x → IsOperatorProd g precedences p

-- The listed productions are of the start rule, and each is one of these; a token is in one place of one production at most; tokens of one
-- level associate alike, as those of levels do; and each level says how its tokens associate.
pub record IsOperatorGrammar (g : Grammar) (precedences : PrecedenceLists) : Type 0 where
  pub one_rule : (p : ℕ) → p < start_prod g → rule_of g p ≡ g.start
  pub prods : (p : ℕ) → p < start_prod g → IsOperatorProd g precedences p
  pub apart : (p q k j a : ℕ) → slice_get (symbols_of g p) k ≡ Some (Terminal a) → slice_get (symbols_of g q) j ≡ Some (Terminal a) → (p ≡ q) × (k ≡ j)
  pub leveled : (a b : ℕ) (x y : Precedence) → token_precedence precedences a ≡ Some x → token_precedence precedences b ≡ Some y → x.level ≡ y.level
      → x.kind ≡ y.kind
  pub declared : (a : ℕ) (x : Precedence) → token_precedence precedences a ≡ Some x → x.kind ≢ Undeclared

-- the tree respects what each production against each operator says of first and last children
pub record IsRespectful {X : Type 0} (g : Grammar) (precedences : PrecedenceLists) (tree : Tree X) : Type 0 where
  pub last : (p q b : ℕ) → EndsInItsRule g p g.start → BeginsWithItsRule g q g.start b → ReducesOrFails (resolution_of precedences p b) → HasNoneLast p q tree
  pub first : (p q b : ℕ) → EndsInItsRule g p g.start → BeginsWithItsRule g q g.start b → ShiftsOrFails (resolution_of precedences p b) → HasNoneFirst p q tree

-- over an operator grammar, the run over the leaves of a tree that respects the precedences accepts them, and makes its productions
abbrev pub RespectfulTreesAreTaken : Type 0 → Type 0
RespectfulTreesAreTaken X =
    (token : X → ℕ) (precedences : PrecedenceLists) (g : Grammar) (graph : Graph) (table : Table) → IsWellFormed g → IsClosed table
    → IsBuiltBy g precedences graph table → IsOperatorGrammar g precedences → (tree : Tree X) → Fits token g tree (Nonterminal g.start)
    → IsRespectful g precedences tree → RunsTo token g table (leaves tree) (productions tree) Accepted

-- over an operator grammar, no two trees that respect the precedences have the same leaves
abbrev pub RespectfulTreesAreOne : Type 0 → Type 0
RespectfulTreesAreOne X =
    (token : X → ℕ) (precedences : PrecedenceLists) (g : Grammar) (graph : Graph) (table : Table) → IsWellFormed g → IsClosed table
    → IsBuiltBy g precedences graph table → IsOperatorGrammar g precedences → (tree other : Tree X) → Fits token g tree (Nonterminal g.start)
    → Fits token g other (Nonterminal g.start) → IsRespectful g precedences tree → IsRespectful g precedences other → leaves tree ≡ leaves other
    → tree ≡ other
