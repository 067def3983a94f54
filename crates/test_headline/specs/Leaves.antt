-- The lexemes of a tree of the program.
use Rattle.std.specs.Prelude.{◌≡◌, List, [], ◌∷◌, None, Result}
use Rattle.lrpar_parse_trees.specs.declared.node.Node.{Node}
use Rattle.lrpar_parse_trees.specs.Visits.{Visit, Met, Entered}
use Rattle.lrpar_parse_trees.specs.Walks.{walk}
use Rattle.lrpar_parse.specs.Lexed.{first_error, lexemes_of}

-- the lexemes among the visits
abbrev pub lexemes_met : {X S : Type 0} → List (Visit X S) → List X
lexemes_met [] = []
lexemes_met (Met x ∷ visits) = x ∷ lexemes_met visits
lexemes_met (Entered rule children ∷ visits) = lexemes_met visits

-- the lexemes that a walk through the tree visits, from left to right
abbrev pub node_leaves : {X S : Type 0} → Node X S → List X
node_leaves node = lexemes_met (walk node)

-- there is no lexing error, and the leaves of the tree are exactly the lexemes, in order
pub record HasLeaves {X S E : Type 0} (node : Node X S) (lexed : List (Result X E)) : Type 0 where
  pub no_error : first_error lexed ≡ None
  pub leaves_are : node_leaves node ≡ lexemes_of lexed
