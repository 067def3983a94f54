-- What a parse builds: entries on the stack of its run.
use Rattle.std.specs.Prelude.{◌≡◌, ℕ, List, [], ◌∷◌, ◌++◌, Option}
use Rattle.lrpar_grammar.specs.Grammar.{Grammar, GrammarSymbol, Terminal}

-- For which grammars it can build; which entries a symbol may have, which ones a lexeme, and which ones a node of a production of the
-- grammar, to the right of an entry or of none, over the entries of its children; and which lists of entries are in order, with no
-- start past a byte.
pub record Building (X E : Type 0) : Type 1 where
  pub can_build : Grammar → Type 0
  pub suits : GrammarSymbol → E → Type 0
  pub leaf : X → E → Type 0
  pub node : Grammar → ℕ → Option E → List E → E → Type 0
  pub rises : List E → ℕ → Type 0

-- an entry of lexeme x, which suits its token t, is added
pub record IsShifted {X E : Type 0} (builds : Building X E) (t : ℕ) (x : X) (old new : List E) : Type 0 where
  pub entry : E
  pub made : builds.leaf x entry
  pub suit : builds.suits (Terminal t) entry
  pub of_entries : new ≡ old ++ entry ∷ []
