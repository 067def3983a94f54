-- What a builder takes and gives for a production, as the code has it. `index` gives the number of a value of the storage type.
use Rattle.std.specs.Prelude.{ℕ, List}
use Rattle.lrpar_grammar_places.specs.declared.span.PIdx.{PIdx}
use Rattle.lrpar_grammar.specs.Grammar.{Grammar, rule_of}
use Rattle.lrpar_parse_run.specs.Building.{Building}
use Rattle.lrpar_parse_run.specs.Reducing.{CanReduce, IsBuiltOf}

module _ {S : Type 0} (index : S → ℕ) (g : Grammar) (prod : PIdx S) {X E : Type 0} (builds : Building X E) (n : ℕ) where
  -- the builder can make an entry of the production from the n top entries
  abbrev pub CanReduceBy : List E → Type 0
  CanReduceBy entries = CanReduce builds g (index prod.0) n entries

  -- the n top entries are replaced by an entry of the production, which is built from them
  abbrev pub IsBuiltBy : List E → List E → Type 0
  IsBuiltBy old new = IsBuiltOf builds g (index prod.0) (rule_of g (index prod.0)) n old new
